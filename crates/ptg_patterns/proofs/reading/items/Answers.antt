use Rattle.std.proofs.Common.{List, Some, Option, ap, sym, subst, ◌∙◌, arith}
use Rattle.ptg_patterns.specs.declared.written.Item.{Item}
use Rattle.ptg_patterns.proofs.FrontsLemmas.{AreItems, brace_found, item_found, all_found}
use Rattle.ptg_patterns.proofs.reading.items.Goals as goal

pub loop-next_brace-preserved-in_ok-push : goal.loop-next_brace-preserved-in_ok-push
loop-next_brace-preserved-in_ok-push c =
    let before = c.loop-next_brace.invariant in
    record {
      reads = subst (λ (l : List Item). AreItems c.args.marks.now l c.in-Some.next_brace c.in-Some.behind.now) (sym c.in_ok-push.ensures.items)
          (item_found c.args.marks.now c.loop-next_brace.rest.now c.in-Some.behind.now c.loop-next_brace.found.items c.loop-next_brace.brace c.in-Some.next_brace c.in-Some-item.item
          (c.in-Some.ensures.front ∙ ap (λ (o : Option Item). Some (c.in-Some.next_brace, o, c.in-Some.behind.now)) c.in-Some-item.is) before.reads);
      shorter = omega (arith, before.shorter, c.in-Some.ensures.shorter);
    }

pub loop-next_brace-preserved : goal.loop-next_brace-preserved
loop-next_brace-preserved c =
    let before = c.loop-next_brace.invariant in
    record {
      reads = brace_found c.args.marks.now c.loop-next_brace.rest.now c.in-Some.behind.now c.loop-next_brace.found.items c.loop-next_brace.brace c.in-Some.next_brace
          (c.in-Some.ensures.front ∙ ap (λ (o : Option Item). Some (c.in-Some.next_brace, o, c.in-Some.behind.now)) c.in_default-item.is) before.reads;
      shorter = omega (arith, before.shorter, c.in-Some.ensures.shorter);
    }

pub returns-clause-items : goal.returns-clause-items
returns-clause-items c = all_found c.args.marks.now c.loop-next_brace.rest.now c.loop-next_brace.found.items c.loop-next_brace.brace c.in_default.ensures.front c.loop-next_brace.invariant.reads
