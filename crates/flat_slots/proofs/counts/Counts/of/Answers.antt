use Rattle.std.proofs.Common.{◌∙◌, max, ap}
use Rattle.flat_slots.specs.Entries.{count_in, plain_count}
use Rattle.flat_slots.proofs.EntryLemmas.{counted-more}
use Rattle.flat_slots.proofs.counts.Counts.of.Goals as goal

pub loop-rule-preserved : goal.loop-rule-preserved
loop-rule-preserved c = λ s.
    counted-more s c.args.rules.now c.loop-rule.rule-index c.rule-item.result c.loop-rule-test.true c.rule-item.is (count_in c.loop-rule.counts) (count_in c.set.new.self) c.max-most.result c.loop-rule.invariant
    (c.max-most.ensures ∙ (λ i. max (c.get.ensures i) ((c.count_plain-count.ensures ∙ ap plain_count c.as_slice.ensures) i))) c.in_ok-set.ensures
