use Rattle.std.proofs.Common.{Some, ap, subst, ◌∙◌, arith}
use Rattle.lido_base.specs.Tree.{item_at}
use Rattle.tree_store.specs.Growth.{IsEmptyOrTree}
use Rattle.tree_store.proofs.ReadingLemmas.{item_inside, there_is}
use Rattle.tree_store.proofs.StoredLemmas.{item_stored}
use Rattle.tree_store.proofs.tree.Tree.item.Goals as goal

pub returns-clause-item : goal.returns-clause-item
returns-clause-item c =
    let found = there_is (item_at c.args.self.now c.args.n.0 c.args.place) c.requires in
    found.1 ∙ ap Some (item_stored c.self.inside.nodes.items c.args.n.0 c.args.place found.0 c.index.result.now c.index-2.result.now (rw c.self.view_is found.1) c.index.ensures c.index-2.ensures)

pub returns-clause-tree : goal.returns-clause-tree
returns-clause-tree c =
    let found = there_is (item_at c.args.self.now c.args.n.0 c.args.place) c.requires in
    let inside = item_inside c.args.self.now c.args.n.0 c.args.place found.0 found.1 in
    subst IsEmptyOrTree c.self.view_is c.self.invariant.1 (omega arith)
