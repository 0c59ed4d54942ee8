use Rattle.std.proofs.Common.{arith, refl}
use Rattle.std.proofs.lemmas.Option.{slice_get_read}
use Rattle.kind_clashes.proofs.LeastLemmas.{first-step, first-end}
use Rattle.table_faults.proofs.unknown.foreign_in_rules.Goals as goal

pub loop-rule-preserved : goal.loop-rule-preserved
loop-rule-preserved c = first-step _ (slice_get_read _ _ _ _ refl c.loop-rule-test.true c.rule-item.is) c.earlier-least.ensures c.loop-rule.invariant c.in_ok-foreign_in_rule.ensures

pub returns : goal.returns
returns c = first-end (omega arith) c.loop-rule.invariant
