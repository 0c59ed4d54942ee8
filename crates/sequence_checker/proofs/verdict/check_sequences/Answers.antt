use Rattle.std.proofs.Common.{◌<◌, ◌∙◌, ap, sym, arith, length}
use Rattle.std.specs.Prelude.{Some}
use Rattle.sequence_checker.proofs.VerdictLemmas.{unsound-at, sound-at, found-at, first-same}
use Rattle.sequence_checker.proofs.verdict.check_sequences.Goals as goal

pub returns-in-Some : goal.returns-in-Some
returns-in-Some c =
    let flat = c.args.flat.now in
    let plan = c.args.plan.now in
    let k = c.loop-k.k in
    let within : k < length c.as_slice.result.now =
    (let l = c.loop-k-test.true in let m = ap (λ (xs : _). length xs) c.as_slice-rule-items.ensures in let n = c.requires.1 in let o = ap (λ (xs : _). length xs) c.as_slice.ensures in omega (arith, l, m, n, o)) in
    unsound-at flat.symbols flat.rules plan.visits plan.seqs k c.rule-item.result c.as_slice-seq.result.now
    (found-at flat.rules c.as_slice-rule-items.result.now k c.rule-item.result c.as_slice-rule-items.ensures c.loop-k-test.true c.rule-item.is)
    (found-at plan.seqs c.as_slice.result.now k c.index-as_slice-k.result c.as_slice.ensures within c.index-as_slice-k.is ∙ ap (λ s. Some s) (sym c.as_slice-seq.ensures))
    c.loop-k.invariant c.in_ok-fault.field-0
    (first-same flat.symbols c.as_slice-symbols.result.now plan.visits c.as_slice-visits.result.now c.rule-item.result c.as_slice-seq.result.now c.in_ok-fault.field-0 c.as_slice-symbols.ensures c.as_slice-visits.ensures c.in_ok-fault.ensures)
    c.requires c.in-Some.fault c.in-Some.is

pub loop-k-preserved : goal.loop-k-preserved
loop-k-preserved c =
    let flat = c.args.flat.now in
    let plan = c.args.plan.now in
    let k = c.loop-k.k in
    let within : k < length c.as_slice.result.now =
    (let l = c.loop-k-test.true in let m = ap (λ (xs : _). length xs) c.as_slice-rule-items.ensures in let n = c.requires.1 in let o = ap (λ (xs : _). length xs) c.as_slice.ensures in omega (arith, l, m, n, o)) in
    sound-at flat.symbols flat.rules plan.visits plan.seqs k c.rule-item.result c.as_slice-seq.result.now
    (found-at flat.rules c.as_slice-rule-items.result.now k c.rule-item.result c.as_slice-rule-items.ensures c.loop-k-test.true c.rule-item.is)
    (found-at plan.seqs c.as_slice.result.now k c.index-as_slice-k.result c.as_slice.ensures within c.index-as_slice-k.is ∙ ap (λ s. Some s) (sym c.as_slice-seq.ensures))
    c.loop-k.invariant c.in_ok-fault.field-0
    (first-same flat.symbols c.as_slice-symbols.result.now plan.visits c.as_slice-visits.result.now c.rule-item.result c.as_slice-seq.result.now c.in_ok-fault.field-0 c.as_slice-symbols.ensures c.as_slice-visits.ensures c.in_ok-fault.ensures)
    c.in_default.is
