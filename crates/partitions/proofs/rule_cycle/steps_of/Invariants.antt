use Rattle.std.proofs.Common.{◌≡◌, ℕ, Some, length}
use Rattle.std.specs.Prelude.{slice_get}
use Rattle.flat_grammar.specs.declared.plan.CycleStep.{CycleStep}
use Rattle.partitions.specs.RuleGraph.{IsStepOf}
use Rattle.partitions.proofs.rule_cycle.steps_of.Given as goal

-- the steps so far
abbrev pub invariant-loop-place : goal.invariant-loop-place
invariant-loop-place l = record {
  count : length l.steps.items ≡ l.place;
  each : (j : ℕ) (s : CycleStep) → slice_get l.steps.items j ≡ Some s → IsStepOf l.flat.symbols l.flat.rules l.rule l.occs l.cycle j s;
}
