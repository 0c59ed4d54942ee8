use Rattle.std.proofs.Common.{◌≡◌, ◌∙◌, ◌++◌, ◌∷◌, [], sym, subst}
use Rattle.flat_grammar.specs.Instances.{instance_at}
use Rattle.core_machine.specs.Machine.{own}
use Rattle.core_machine.specs.Core.{Task, instances_in_order, items, machine}
use Rattle.core_machine.specs.Cursors.{left, IsCursor}
use Rattle.core_machine.specs.Runs.{IsBehind, IsStackFor}
use Rattle.core_machine.proofs.Undivided.{whole-list}
use Rattle.core_machine.proofs.RunLemmas.{first-of, none-of, step-list, ended}
use Rattle.core_machine.proofs.run.evaluate_all.Goals as goal

pub loop-item-init : goal.loop-item-init
loop-item-init c = record {
  cursor = subst (λ (t : Task). IsCursor t c.in_ok-cursor.cursor) c.job-job.ensures c.in_ok-cursor.ensures.cursor;
  behind = (
    [],
    instances_in_order c.args.whole.now,
    subst (λ (t : Task). left t c.in_ok-cursor.cursor ≡ own (machine t) 0 (items t)) c.job-job.ensures c.in_ok-cursor.ensures.whole ∙ whole-list c.args.whole.now c.facts.ensures,
    c.requires.opening,
  );
  empty = c.requires.empty;
  stack = c.requires.stack;
}

pub evaluate_next-requires-clause-behind : goal.evaluate_next-requires-clause-behind
evaluate_next-requires-clause-behind c =
    let b = c.loop-item.invariant.behind in
    let f = first-of c.args.whole.now c.job-job.result.now c.loop-item.cursor c.in-Some.item b.1 c.in-Eval.node c.in-Eval.occ c.job-job.ensures b.2 c.in-Some.ensures c.in-Eval.is in
    (b.0, f.0, subst (λ r. IsBehind c.args.whole.now b.0 r c.loop-item.values c.loop-item.rooms) f.1 b.3)

pub loop-item-preserved : goal.loop-item-preserved
loop-item-preserved c =
    let b = c.loop-item.invariant.behind in
    let f = first-of c.args.whole.now c.job-job.result.now c.loop-item.cursor c.in-Some.item b.1 c.in-Eval.node c.in-Eval.occ c.job-job.ensures b.2 c.in-Some.ensures c.in-Eval.is in
    let i = instance_at c.args.whole.now.flat c.in-Eval.node.0 c.in-Eval.occ in
    record {
      cursor = subst (λ (t : Task). IsCursor t c.step.new.self) c.job-job.ensures c.step.ensures.cursor;
      behind = (
        b.0 ++ i ∷ [],
        f.0,
        step-list c.args.whole.now c.job-job.result.now c.loop-item.cursor c.step.new.self b.1 f.0 i c.job-job.ensures b.2 f.1 c.step.ensures.left,
        c.evaluate_next.ensures.behind b.0 f.0 (subst (λ r. IsBehind c.args.whole.now b.0 r c.loop-item.values c.loop-item.rooms) f.1 b.3),
      );
      empty = c.evaluate_next.ensures.empty;
      stack = subst (IsStackFor c.args.whole.now) (sym c.evaluate_next.ensures.capacity) c.loop-item.invariant.stack;
    }

pub returns : goal.returns
returns c =
    let b = c.loop-item.invariant.behind in
    let e = none-of c.args.whole.now c.job-job.result.now c.loop-item.cursor b.1 c.job-job.ensures b.2 c.in_default.ensures in
    ended c.args.whole.now c.facts.ensures b.0 c.loop-item.values c.loop-item.rooms (subst (λ r. IsBehind c.args.whole.now b.0 r c.loop-item.values c.loop-item.rooms) e b.3)
