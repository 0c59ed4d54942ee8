use Rattle.std.proofs.Common.{◌∙◌, ap, sym, subst, arith, drop, Some}
use Rattle.core_machine.specs.Cursors.{left, IsFirst}
use Rattle.region_engine.specs.Behind.{list}
use Rattle.region_engine.proofs.Lists.{counted-next, ends-there, few-own, none-first}
use Rattle.region_engine.proofs.region.counts.Goals as goal

pub overflow_add-items : goal.overflow_add-items
overflow_add-items c =
    let i = c.loop-item.invariant in
    let n = counted-next c.args.job.now c.args.number c.loop-item.items c.loop-item.puts c.in-Some.item (subst (λ l. IsFirst c.args.job.now l (Some c.in-Some.item)) i.rest c.in-Some.ensures) i.puts i.few in
    let f = few-own c.args.job.now c.facts.ensures c.args.number in
    omega (arith, n.0, f)

pub overflow_add-puts : goal.overflow_add-puts
overflow_add-puts c =
    let i = c.loop-item.invariant in
    let n = counted-next c.args.job.now c.args.number c.loop-item.items c.loop-item.puts c.in-Some.item (subst (λ l. IsFirst c.args.job.now l (Some c.in-Some.item)) i.rest c.in-Some.ensures) i.puts i.few in
    let f = few-own c.args.job.now c.facts.ensures c.args.number in
    omega (arith, n.0, n.3, f, c.puts_of-puts.ensures)

pub loop-item-preserved : goal.loop-item-preserved
loop-item-preserved c =
    let i = c.loop-item.invariant in
    let n = counted-next c.args.job.now c.args.number c.loop-item.items c.loop-item.puts c.in-Some.item (subst (λ l. IsFirst c.args.job.now l (Some c.in-Some.item)) i.rest c.in-Some.ensures) i.puts i.few in
    record {
      cursor = c.step.ensures.cursor;
      rest = c.step.ensures.left ∙ ap (drop 1) i.rest ∙ n.1;
      within = omega (arith, n.0);
      puts = omega (arith, n.2, c.puts_of-puts.ensures);
      few = omega (arith, n.3, c.puts_of-puts.ensures);
    }

pub returns-clause-items : goal.returns-clause-items
returns-clause-items c =
    let i = c.loop-item.invariant in
    ends-there c.args.job.now (list c.args.job.now c.args.number) c.loop-item.items i.within (sym i.rest ∙ none-first c.args.job.now (left c.args.job.now c.loop-item.cursor) c.in_default.ensures)
