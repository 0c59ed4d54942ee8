use Rattle.std.proofs.Common.{◌≡◌, ℕ, length}
use Rattle.std.specs.Prelude.{slice_get, Some}
use Rattle.flat_grammar.specs.declared.flat.FlatRule.{FlatRule}
use Rattle.induced_deps.specs.declared.growth.Graph.{Graph}
use Rattle.induced_deps.specs.Graphs.{IsGraph}
use Rattle.induced_deps.proofs.growth.graphs_of.Given as goal

abbrev pub invariant-loop-rule : goal.invariant-loop-rule
invariant-loop-rule l = record {
  count : length l.graphs.items ≡ l.rule-index;
  each : (k : ℕ) (r : FlatRule) (g : Graph) → slice_get l.flat.rules k ≡ Some r → slice_get l.graphs.items k ≡ Some g → IsGraph l.flat.symbols l.flat.rules r g.places.items g.closure.rows.items;
}
