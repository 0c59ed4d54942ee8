use Rattle.std.specs.Prelude.{slice_get, IsBitSet, Some}
use Rattle.std.proofs.Common.{◌≡◌, ℕ}
use Rattle.visit_sequences.proofs.BitsLemmas.{IsFound}
use Rattle.visit_sequences.proofs.goals.induced.Given as goal

-- the set has those looked at
abbrev pub invariant-loop-a : goal.invariant-loop-a
invariant-loop-a l = IsFound (λ j. (row : ℕ) × (slice_get l.rows j ≡ Some row) × IsBitSet row l.b.0) l.a l.set
