use Rattle.std.proofs.Common.{◌≡◌, [], ◌∷◌, ◌++◌, refl, ap, sym, subst, ◌∙◌, arith, length}
use Rattle.lido_base.specs.Tree.{IsTree, with_node}
use Rattle.tree_store.specs.declared.tree.StoredNode.{StoredNode}
use Rattle.tree_store.specs.declared.tree.Tree.TheInside.{Inside}
use Rattle.tree_store.specs.Growth.{IsEmptyOrTree}
use Rattle.tree_store.specs.Stored.{table, number_of}
use Rattle.tree_store.proofs.GrowthLemmas.{IsTree-grown, length-with_node}
use Rattle.tree_store.proofs.StoredLemmas.{length-table, next_inside, push_below, push_first}
use Rattle.tree_store.proofs.tree.Tree.add_node.Goals as goal
use Rattle.tree_store.proofs.tree.Tree.add_node.Goals.{in-Some+in_ok-place-in-Some, in-None}

pub push_item-requires-clause-stored : goal.push_item-requires-clause-stored
push_item-requires-clause-stored c =
    let h = next_inside c.self.inside.nodes.items c.args.self.now c.self.view_is c.self.invariant.1 c.args.parent c.in-Some.p c.in-Some.is c.requires.in_preorder in
    omega (arith, c.in_ok-reserve.ensures.len, c.self.inside.nodes.ok.0)

grown : (c : goal.After-push_reserved) → table c.push_reserved.new.self.items ≡ with_node c.args.self.now c.args.rule.0 (number_of c.args.parent) c.args.line c.args.column
grown c =
    let node : StoredNode = record { items = c.new.result; parent = c.match-parent.parent; place = c.match-parent.place; line = c.args.line; column = c.args.column; rule = c.args.rule } in
    let before = ap table c.in_ok-reserve.ensures.items ∙ c.self.view_is in
    elim c.match-parent.branch [
      | in-Some+in_ok-place-in-Some w ↦ push_below c.reserve.new.self.items w.push_item.new.nodes.items c.push_reserved.new.self.items c.args.self.now c.args.rule c.args.line c.args.column c.args.parent w.in-Some.p
          (record { 0 = c.len.result }) node before w.in-Some.is w.in_ok-place-in-Some.ensures.added (c.push_reserved.ensures.items ∙ ap (λ (z : Inside). z.nodes.items ++ node ∷ []) w.self-inside-is)
          (omega (arith, c.reserve.new.self.ok.0)) refl w.parent-is (w.place-is ∙ w.in_ok-place-in-Some.ensures.place) refl refl c.new.ensures.items
      | in-None w ↦ push_first c.reserve.new.self.items c.push_reserved.new.self.items c.args.self.now c.args.rule c.args.line c.args.column c.args.parent node before w.in-None.is
          (c.push_reserved.ensures.items ∙ ap (λ (z : Inside). z.nodes.items ++ node ∷ []) w.self-inside-is) refl (w.parent-is ∙ w.in-None.is) w.place-is refl refl c.new.ensures.items
    ]

is_tree : (c : goal.After-push_reserved) → IsTree (table c.push_reserved.new.self.items)
is_tree c = subst IsTree (sym (grown c)) (IsTree-grown c.args.self.now (subst IsEmptyOrTree c.self.view_is c.self.invariant.1) c.args.rule.0 (number_of c.args.parent) c.args.line c.args.column c.requires.in_preorder)

pub invariant_of-self-2 : goal.invariant_of-self-2
invariant_of-self-2 c = (
  omega (arith, sym (length-table c.push_reserved.new.self.items) ∙ ap length (grown c) ∙ length-with_node c.args.self.now c.args.rule.0 (number_of c.args.parent) c.args.line c.args.column, c.requires.few_nodes),
  λ h. is_tree c,
)

pub returns-clause-tree : goal.returns-clause-tree
returns-clause-tree c = is_tree c
