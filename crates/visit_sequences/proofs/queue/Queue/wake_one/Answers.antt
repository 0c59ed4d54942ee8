use Rattle.std.specs.Prelude.{Contains}
use Rattle.std.proofs.Common.{◌∙◌, sym, subst}
use Rattle.std.proofs.lemmas.List.{take_all}
use Rattle.visit_sequences.specs.Steps.{AreWithin}
use Rattle.visit_sequences.proofs.QueueLemmas.{looked-next}
use Rattle.visit_sequences.proofs.queue.Queue.wake_one.Goals as goal

pub loop-at-preserved : goal.loop-at-preserved
loop-at-preserved c =
    let p = c.args.progress.now in
    let goals = c.args.goals.now in
    let done = c.in_ok-look.ensures in
    record {
      free = done.free;
      seen = done.seen;
      listed = done.listed;
      count = done.count ∙ c.loop-at.invariant.count;
      more = λ o b. done.keeps.free o (c.loop-at.invariant.more o b);
      others = λ u i w n. done.keeps.waits u i (c.loop-at.invariant.others u i w n);
      looked = looked-next p goals c.loop-at.self c.look.new.self c.deref-at-items.result.now c.loop-at.at-index 0 c.loop-at-test.true done.keeps c.loop-at.invariant.looked done.stands;
    }

pub look-requires-clause-within : goal.look-requires-clause-within
look-requires-clause-within c = subst (λ n. AreWithin c.args.goals.now n) (sym c.loop-at.invariant.count) c.requires.within

pub returns-clause-wakes : goal.returns-clause-wakes
returns-clause-wakes c =
    let items = c.deref-at-items.result.now in
    record {
      free = c.loop-at.invariant.more;
      others = c.loop-at.invariant.others;
      here = λ i g at w. c.loop-at.invariant.looked i g at (subst (λ l. Contains l i) (sym (take_all c.loop-at.at-index items c.loop-at-test.false)) (subst (λ l. Contains l i) (sym c.deref-at-items.ensures.value) (c.woken-woken.ensures.here i w)));
    }
