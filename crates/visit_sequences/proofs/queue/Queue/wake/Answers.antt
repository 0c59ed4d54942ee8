use Rattle.std.specs.Prelude.{Contains}
use Rattle.std.proofs.Common.{sym, subst}
use Rattle.visit_sequences.specs.Steps.{AreWithin}
use Rattle.visit_sequences.proofs.QueueLemmas.{grown-free, grown-seen, grown-listed, late-first, late-next, late-last}
use Rattle.visit_sequences.proofs.queue.Queue.wake.Goals as goal

pub loop-missing-init : goal.loop-missing-init
loop-missing-init c =
    let p = c.args.progress.now in
    let goals = c.args.goals.now in
    let q = c.args.self.now in
    let given = c.args.given.now in
    let (before, sorts, grows) = c.requires in
    record {
      free = grown-free before p goals q (λ u. Contains given u) sorts grows;
      seen = grown-seen before p goals q (λ u. Contains given u) sorts grows;
      listed = grown-listed before p goals q (λ u. Contains given u) sorts grows;
      within = sorts.within;
      late = late-first before p goals q given sorts grows;
    }

pub loop-missing-preserved : goal.loop-missing-preserved
loop-missing-preserved c =
    let done = c.in_ok-wake_one.ensures in
    record {
      free = done.free;
      seen = done.seen;
      listed = done.listed;
      within = subst (λ n. AreWithin c.args.goals.now n) (sym done.count) c.loop-missing.invariant.within;
      late = λ i g at. late-next c.args.progress.now c.args.goals.now c.loop-missing.self c.wake_one.new.self c.args.given.now c.loop-missing.missing-index (record { occ = 0; attr = record { 0 = 0 } }) c.loop-missing-test.true done.wakes i g at (c.loop-missing.invariant.late i g at);
    }

pub returns : goal.returns
returns c = record {
  within = c.loop-missing.invariant.within;
  free = c.loop-missing.invariant.free;
  seen = c.loop-missing.invariant.seen;
  stands = λ i g at. late-last c.args.progress.now c.loop-missing.self c.args.given.now c.loop-missing.missing-index i g c.loop-missing-test.false (c.loop-missing.invariant.late i g at);
  listed = c.loop-missing.invariant.listed;
}
