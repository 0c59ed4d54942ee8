use Rattle.std.proofs.Common.{arith, take}
use Rattle.flat_grammar.specs.declared.plan.PlanItem.{PlanItem}
use Rattle.flat_grammar.specs.declared.plan.PlanItem.TheVariants.{Eval}
use Rattle.sequence_checker.proofs.SequenceLemmas.{place-fits, place-is, item-breaks, item-holds, item-seen, fault-at-end, no-fault, all-seen}
use Rattle.sequence_checker.proofs.sequence.sequence_fault.Goals as goal

-- what a list's place past its end is said to have
default : PlanItem
default = Eval (record { occ = 0; attr = record { 0 = 0 } })

pub overflow_cast-result : goal.overflow_cast-result
overflow_cast-result c =
    let f = place-fits c.args.symbols.now c.args.visits.now c.args.rule.now c.requires.rule c.requires.occurrences c.requires.few (take c.loop-place.place c.args.seq.now) c.loop-place.progress c.loop-place.invariant.follows in
    let l = place-is c.args.symbols.now c.args.visits.now c.args.rule.now c.args.seq.now c.loop-place.place default c.loop-place-test.true c.loop-place.progress c.loop-place.invariant.follows c.loop-place.invariant.hold in
    omega (arith, f, l)

pub returns-in-Some : goal.returns-in-Some
returns-in-Some c = item-breaks c.args.symbols.now c.args.visits.now c.args.rule.now c.args.seq.now c.loop-place.place (Eval (record { occ = 0; attr = record { 0 = 0 } })) c.loop-place-test.true c.loop-place.progress
    c.loop-place.invariant.follows c.loop-place.invariant.hold c.in_ok-clause.field-0 c.in-Some.clause c.in-Some.is c.in_ok-clause.ensures

pub loop-place-preserved : goal.loop-place-preserved
loop-place-preserved c = record {
  follows = item-seen c.args.symbols.now c.args.visits.now c.args.rule.now c.args.seq.now c.loop-place.place (Eval (record { occ = 0; attr = record { 0 = 0 } })) c.loop-place-test.true c.loop-place.progress
      c.loop-place.invariant.follows c.loop-place.invariant.hold c.take.new.self c.in_ok-clause.field-0 c.requires.rule c.in_default.is c.in_ok-clause.ensures c.in_ok-take.ensures;
  hold = item-holds c.args.symbols.now c.args.visits.now c.args.rule.now c.args.seq.now c.loop-place.place (Eval (record { occ = 0; attr = record { 0 = 0 } })) c.loop-place-test.true c.loop-place.progress
      c.loop-place.invariant.follows c.loop-place.invariant.hold c.in_ok-clause.field-0 c.in_default.is c.in_ok-clause.ensures;
}

pub overflow_cast-result-in-Some-end_fault : goal.overflow_cast-result-in-Some-end_fault
overflow_cast-result-in-Some-end_fault c =
    let f = place-fits c.args.symbols.now c.args.visits.now c.args.rule.now c.requires.rule c.requires.occurrences c.requires.few c.args.seq.now c.loop-place.progress
    (all-seen c.args.symbols.now c.args.visits.now c.args.rule.now c.args.seq.now c.loop-place.place c.loop-place.progress c.loop-place-test.false c.loop-place.invariant.follows c.loop-place.invariant.hold) in
    omega (arith, f)

pub returns-in-Some-end_fault : goal.returns-in-Some-end_fault
returns-in-Some-end_fault c = fault-at-end c.args.symbols.now c.args.visits.now c.args.rule.now c.args.seq.now c.loop-place.place c.loop-place.progress c.loop-place-test.false c.loop-place.invariant.follows c.loop-place.invariant.hold
    c.in-Some-end_fault.clause c.in-Some-end_fault.ensures

pub returns : goal.returns
returns c = no-fault c.args.symbols.now c.args.visits.now c.args.rule.now c.args.seq.now c.loop-place.place c.loop-place.progress c.loop-place-test.false c.loop-place.invariant.follows c.loop-place.invariant.hold c.in-None.ensures
