use Rattle.std.proofs.Common.{arith}
use Rattle.lido_base.specs.Tree.{IsTree}
use Rattle.tree_store.specs.Stored.{table}
use Rattle.tree_store.proofs.GrowthLemmas.{open_in, IsTree-leaf}
use Rattle.tree_store.proofs.StoredLemmas.{length-table}
use Rattle.tree_store.proofs.tree.Tree.add_terminal.Goals as goal

pub push_item-requires-clause-stored : goal.push_item-requires-clause-stored
push_item-requires-clause-stored c =
    let h = open_in (table c.self.inside.nodes.items) c.self.invariant.1 c.args.parent.0 (rw c.self.view_is c.requires.in_preorder) in
    omega (arith, length-table c.self.inside.nodes.items, c.self.inside.nodes.ok.0)

is_tree : (c : goal.In_ok-push_item) → IsTree (table c.push_item.new.nodes.items)
is_tree c = rw c.in_ok-push_item.ensures.added (IsTree-leaf (table c.self.inside.nodes.items) c.self.invariant.1 c.args.parent.0 c.args.value (rw c.self.view_is c.requires.in_preorder))

pub invariant_of-self-2 : goal.invariant_of-self-2
invariant_of-self-2 c = (
  omega (arith, c.self.invariant.0, c.in_ok-push_item.ensures.len, c.push_item.new.nodes.ok.0, c.self.inside.nodes.ok.0),
  λ h. is_tree c,
)

pub returns-clause-tree : goal.returns-clause-tree
returns-clause-tree c = is_tree c
