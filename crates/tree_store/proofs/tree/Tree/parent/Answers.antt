use Rattle.std.proofs.Common.{◌≡◌, ap, subst, ◌∙◌, arith, length}
use Rattle.lido_base.specs.Tree.{parent_of}
use Rattle.tree_store.specs.Growth.{IsEmptyOrTree}
use Rattle.tree_store.specs.Stored.{number_of}
use Rattle.tree_store.proofs.StoredLemmas.{length-table, parent_of-table, root_parent, parent_first}
use Rattle.tree_store.proofs.tree.Tree.parent.Goals as goal

parent : (c : goal.After-result-1) → number_of c.index.result.now.parent ≡ parent_of c.args.self.now c.args.n.0
parent c = parent_of-table c.self.inside.nodes.items c.args.n.0 c.index.result.now (omega (arith, length-table c.self.inside.nodes.items, ap length c.self.view_is)) c.index.ensures ∙ ap (λ t. parent_of t c.args.n.0) c.self.view_is

pub returns-clause-root : goal.returns-clause-root
returns-clause-root c = root_parent c.args.self.now (subst IsEmptyOrTree c.self.view_is c.self.invariant.1) c.args.n.0 c.requires c.index.result.now.parent (parent c)

pub returns-clause-before : goal.returns-clause-before
returns-clause-before c = parent_first c.args.self.now (subst IsEmptyOrTree c.self.view_is c.self.invariant.1) c.args.n.0 c.requires c.index.result.now.parent (parent c)
