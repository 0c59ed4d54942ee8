use Rattle.sequence_checker.proofs.IndexLemmas.{index-step, whole-index}
use Rattle.sequence_checker.proofs.goals.Goals.of.Goals as goal

pub loop-place-preserved : goal.loop-place-preserved
loop-place-preserved c = index-step c.args.rule.now.comps c.as_slice-comp-items.result.now c.loop-place.place c.comp-item.result c.loop-place.goals c.note.new.self c.as_slice-comp-items.ensures c.loop-place-test.true c.comp-item.is
    c.loop-place.invariant c.in_ok-note.ensures

pub returns : goal.returns
returns c = whole-index c.args.rule.now.comps c.as_slice-comp-items.result.now c.loop-place.place c.loop-place.goals c.as_slice-comp-items.ensures c.loop-place-test.false c.loop-place.invariant
