use Rattle.std.proofs.Common.{◌≡◌, ℕ, length}
use Rattle.std.specs.Prelude.{slice_get, Some}
use Rattle.flat_grammar.specs.Rules.{symbols_of}
use Rattle.induced_deps.specs.declared.graph.Place.{Place}
use Rattle.induced_deps.specs.Vertices.{IsPlace, offset}
use Rattle.induced_deps.proofs.graph.places_of.Given as goal

abbrev pub invariant-loop-symbol : goal.invariant-loop-symbol
invariant-loop-symbol l = record {
  same : l.symbol-items ≡ symbols_of l.rule;
  count : length l.places.items ≡ l.symbol-index;
  offset_is : l.offset ≡ offset l.flat.symbols l.rule l.symbol-index;
  each : (k : ℕ) (p : Place) → slice_get l.places.items k ≡ Some p → IsPlace l.flat.symbols l.rule k p;
}
