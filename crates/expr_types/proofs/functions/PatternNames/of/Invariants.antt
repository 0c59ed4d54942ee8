use Rattle.std.proofs.Common.{◌≡◌, ℕ, drop}
use Rattle.std.specs.Option.{option_or}
use Rattle.expr_types.specs.Functions.{number_of, first_pattern}
use Rattle.expr_types.proofs.functions.PatternNames.of.Given as goal

abbrev pub invariant-loop-k : goal.invariant-loop-k
invariant-loop-k l = (id : ℕ) → option_or (number_of l.names id) (first_pattern id l.k (drop l.k l.patterns)) ≡ first_pattern id 0 l.patterns
