use Rattle.std.proofs.Common.{ap, subst, ◌∙◌, arith, length}
use Rattle.lido_base.specs.Tree.{place_of}
use Rattle.tree_store.specs.Growth.{IsEmptyOrTree}
use Rattle.tree_store.proofs.StoredLemmas.{length-table, place_of-table, root_place}
use Rattle.tree_store.proofs.tree.Tree.place.Goals as goal

pub returns-clause-root : goal.returns-clause-root
returns-clause-root c = root_place c.args.self.now (subst IsEmptyOrTree c.self.view_is c.self.invariant.1) c.args.n.0 c.requires c.index.result.now.place
    (place_of-table c.self.inside.nodes.items c.args.n.0 c.index.result.now (omega (arith, length-table c.self.inside.nodes.items, ap length c.self.view_is)) c.index.ensures ∙ ap (λ t. place_of t c.args.n.0) c.self.view_is)
