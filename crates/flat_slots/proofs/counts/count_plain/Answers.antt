use Rattle.std.proofs.Common.{◌∙◌, ap, sym, arith}
use Rattle.std.proofs.lemmas.List.Sums.{count_by_more_yes, count_by_more_no}
use Rattle.flat_slots.specs.Entries.{is_plain}
use Rattle.flat_slots.proofs.counts.count_plain.Goals as goal
use Rattle.flat_slots.proofs.counts.count_plain.Goals.{then-is_plain_one, else-is_plain_one}

pub loop-comp-preserved : goal.loop-comp-preserved
loop-comp-preserved c =
    let comps = c.args.comps.now in
    let i = c.loop-comp.comp-index in
    let x = c.comp-item.result in
    let before = c.loop-comp.invariant.count in
    let few = c.loop-comp.invariant.few in
    let tested = ap is_plain (sym c.comp-item.is) in
    elim c.if-is_plain_one.branch [
      | then-is_plain_one w ↦ record {
        count = (let more = count_by_more_yes is_plain comps i x c.loop-comp-test.true (tested ∙ sym c.is_plain_one.ensures ∙ w.if-is_plain_one.true) in let e = w.count-is in omega (arith, more, before, e));
        few = let e = w.count-is in omega (arith, few, e);
      }
      | else-is_plain_one w ↦ record {
        count = (let more = count_by_more_no is_plain comps i x c.loop-comp-test.true (tested ∙ sym c.is_plain_one.ensures ∙ w.if-is_plain_one.false) in let e = w.count-is in omega (arith, more, before, e));
        few = let e = w.count-is in omega (arith, few, e);
      }
    ]
