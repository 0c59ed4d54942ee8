use Rattle.std.proofs.Common.{◌≡◌, ℕ, List, length, Some}
use Rattle.std.specs.Prelude.{Contains, ◌↔◌, slice_get}
use Rattle.flat_grammar.specs.declared.flat.Occ.{Occ}
use Rattle.partitions.specs.RuleGraph.{IsComingAt}
use Rattle.partitions.proofs.edges.symbol_preds.Given as goal

-- the predecessors so far
abbrev pub invariant-loop-o : goal.invariant-loop-o
invariant-loop-o l = record {
  count : length l.preds.items ≡ l.o-index;
  rows : (v : ℕ) (row : List ℕ) → slice_get l.preds.items v ≡ Some row → (o : Occ) × (slice_get l.vertices.occs.items v ≡ Some o) × ((u : ℕ) → Contains row u ↔ IsComingAt l.rule l.ids l.later l.vertices.starts.items o u);
}
