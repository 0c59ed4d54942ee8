use Rattle.core_machine.proofs.SizeLemmas.{Each, IsLightRule}
use Rattle.region_engine.proofs.sizes.stack_room.Given as goal

-- no computation of a rule so far weighs more
abbrev pub invariant-loop-rule : goal.invariant-loop-rule
invariant-loop-rule l = Each (IsLightRule l.most) l.job.rules l.rule-index
