use Rattle.std.specs.Prelude.{slice_get}
use Rattle.std.proofs.Common.{◌≡◌, ◌<◌, ◌≤◌, ℕ, Some, []}
use Rattle.flat_grammar.specs.declared.plan.VisitClass.{VisitClass}
use Rattle.visit_sequences.proofs.choice.is_of_use.Given as goal

-- those so far synthesize nothing
abbrev pub invariant-loop-v : goal.invariant-loop-v
invariant-loop-v l = (w : ℕ) (c : VisitClass) → l.from ≤ w → w < l.v → slice_get l.row w ≡ Some c → c.synthesized ≡ []
