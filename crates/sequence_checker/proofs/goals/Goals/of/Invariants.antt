use Rattle.std.proofs.Common.{take}
use Rattle.sequence_checker.specs.Goals.{IsIndexOf}
use Rattle.sequence_checker.proofs.goals.Goals.of.Given as goal

abbrev pub invariant-loop-place : goal.invariant-loop-place
invariant-loop-place l = IsIndexOf (take l.place l.rule.comps) l.goals
