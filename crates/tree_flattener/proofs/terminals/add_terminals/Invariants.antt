use Rattle.std.proofs.Common.{◌≡◌, ◌≤◌, List, take}
use Rattle.lido_base.specs.Tree.{items_of, places}
use Rattle.flat_grammar.specs.declared.flat.FlatSymbol.{FlatSymbol}
use Rattle.flat_grammar.specs.declared.flat.FlatRule.{FlatRule}
use Rattle.flat_grammar.specs.declared.flat.Shape.{Shape}
use Rattle.flat_grammar.specs.FlatTrees.{AreItems}
use Rattle.tree_flattener.specs.Drafts.{Fills, IsPlaced}
use Rattle.tree_flattener.proofs.terminals.add_terminals.Given as goal

-- the terminals so far
abbrev pub invariant-loop-k : goal.invariant-loop-k
invariant-loop-k l = record {
  filled : Fills l.initial.draft.flat l.draft.flat l.at.tail;
  placed : IsPlaced l.written l.draft.flat l.draft.node_of;
  nodes : l.draft.node_of ≡ l.initial.draft.node_of;
  same : l.draft.flat_of ≡ l.initial.draft.flat_of;
  few : places l.draft.flat l.at.tail ≤ l.k;
  items : (symbols : List FlatSymbol) (rules : List FlatRule) (shapes : List Shape)
      → AreItems rules shapes l.initial.draft.flat l.initial.draft.node_of (items_of l.initial.draft.flat l.at.tail) (take l.at.done (items_of l.written l.at.node))
      → AreItems rules shapes l.draft.flat l.draft.node_of (items_of l.draft.flat l.at.tail) (take l.k (items_of l.written l.at.node));
}
