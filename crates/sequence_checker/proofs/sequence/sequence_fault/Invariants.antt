use Rattle.std.proofs.Common.{ℕ, ◌<◌, take}
use Rattle.flat_grammar.specs.SoundPlan.{HoldsAt}
use Rattle.sequence_checker.specs.Steps.{Follows}
use Rattle.sequence_checker.proofs.sequence.sequence_fault.Given as goal

abbrev pub invariant-loop-place : goal.invariant-loop-place
invariant-loop-place l = record { follows : Follows l.visits l.rule (take l.place l.seq) l.progress; hold : (place clause : ℕ) → place < l.place → HoldsAt l.symbols l.visits l.rule l.seq place clause }
