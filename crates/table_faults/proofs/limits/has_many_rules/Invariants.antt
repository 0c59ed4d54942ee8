use Rattle.std.specs.Prelude.{sum_by}
use Rattle.std.proofs.Common.{take}
use Rattle.lido_base.specs.Environment.{Environment}
use Rattle.lido_syntax.specs.declared.spec.Spec.{Spec}
use Rattle.table_faults.specs.Faults.{plain_count}
use Rattle.table_faults.specs.Limits.{Counts}
use Rattle.table_faults.proofs.limits.has_many_rules.Given as goal

abbrev pub invariant-loop-rule : goal.invariant-loop-rule
invariant-loop-rule l = (spec : Spec) (env : Environment) → Counts (sum_by (plain_count spec env) (take l.rule-index l.rules)) l.count
