use Rattle.std.proofs.Common.{arith, refl}
use Rattle.std.proofs.lemmas.Option.{slice_get_read}
use Rattle.kind_clashes.proofs.LeastLemmas.{first-none}
use Rattle.kind_clashes.proofs.NamesLemmas.{more-begin, more-step, more-one}
use Rattle.kind_clashes.proofs.NamesLemmas.{set-of}
use Rattle.table_faults.proofs.DuplicatesLemmas.{duplicate-step, duplicate-end}
use Rattle.table_faults.proofs.duplicates.least_duplicate_in.Goals as goal

pub loop-rule-init : goal.loop-rule-init
loop-rule-init c = record { seen = more-begin; least = first-none (λ at h. let below = h.below in omega (arith, below)) }

pub loop-rule-preserved : goal.loop-rule-preserved
loop-rule-preserved c = let got = slice_get_read _ _ _ _ refl c.loop-rule-test.true c.rule-item.is in record {
  seen = more-step _ got c.loop-rule.invariant.seen (more-one c.in_ok-add.ensures);
  least = duplicate-step c.args.rules.now c.loop-rule.rule-index c.rule-item.result c.loop-rule.seen c.loop-rule.least c.if_seen.result c.earlier-least.result got c.earlier-least.ensures
      (set-of c.new-seen.ensures c.loop-rule.invariant.seen) c.loop-rule.invariant.least c.if_seen.ensures;
}

pub returns : goal.returns
returns c = duplicate-end c.args.rules.now c.loop-rule.rule-index c.loop-rule.least (omega arith) c.loop-rule.invariant.least
