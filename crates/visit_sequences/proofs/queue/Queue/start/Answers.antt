use Rattle.std.proofs.Common.{◌∙◌, sym, subst, arith}
use Rattle.std.proofs.lemmas.Option.{slice_get_within}
use Rattle.visit_sequences.specs.Steps.{AreWithin}
use Rattle.visit_sequences.proofs.QueueLemmas.{stands-next}
use Rattle.visit_sequences.proofs.queue.Queue.start.Goals as goal

pub loop-at-preserved : goal.loop-at-preserved
loop-at-preserved c =
    let done = c.in_ok-look.ensures in
    record {
      free = done.free;
      seen = done.seen;
      stands = stands-next c.args.progress.now c.args.goals.now c.loop-at.queue c.look.new.self c.loop-at.at done.keeps c.loop-at.invariant.stands done.stands;
      listed = done.listed;
      count = done.count ∙ c.loop-at.invariant.count;
    }

pub look-requires-clause-within : goal.look-requires-clause-within
look-requires-clause-within c = subst (λ n. AreWithin c.args.goals.now n) (sym c.loop-at.invariant.count) c.requires

pub returns : goal.returns
returns c = record {
  within = subst (λ n. AreWithin c.args.goals.now n) (sym c.loop-at.invariant.count) c.requires;
  free = c.loop-at.invariant.free;
  seen = c.loop-at.invariant.seen;
  stands = λ i g at. c.loop-at.invariant.stands i g (let l = slice_get_within c.args.goals.now i g at in let t = c.loop-at-test.false in omega (arith, l, t)) at;
  listed = c.loop-at.invariant.listed;
}
