use Rattle.std.proofs.Common.{◌≡◌, ℕ, ◌<◌, Some}
use Rattle.std.specs.Prelude.{slice_get}
use Rattle.flat_grammar.specs.declared.flat.FlatRule.{FlatRule}
use Rattle.partitions.specs.RuleGraph.{IsRanked}
use Rattle.partitions.proofs.parts.partition.Given as goal

-- the rules so far have no cycle
abbrev pub invariant-loop-i : goal.invariant-loop-i
invariant-loop-i l = (j : ℕ) (r : FlatRule) → j < l.i → slice_get l.flat.rules j ≡ Some r → IsRanked l.flat.symbols l.flat.rules r
