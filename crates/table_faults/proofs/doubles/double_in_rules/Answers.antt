use Rattle.std.proofs.Common.{arith, refl}
use Rattle.std.proofs.lemmas.Option.{slice_get_read}
use Rattle.kind_clashes.proofs.LeastLemmas.{first-begin, first-step, first-end}
use Rattle.table_faults.proofs.doubles.double_in_rules.Goals as goal

pub loop-rule-init : goal.loop-rule-init
loop-rule-init c = first-begin

pub loop-rule-preserved : goal.loop-rule-preserved
loop-rule-preserved c = first-step _ (slice_get_read _ _ _ _ refl c.loop-rule-test.true c.rule-item.is) c.earlier-least.ensures c.loop-rule.invariant c.in_ok-double_in_rule.ensures

pub returns : goal.returns
returns c = first-end (omega arith) c.loop-rule.invariant
