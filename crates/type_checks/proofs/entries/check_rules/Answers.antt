use Rattle.std.specs.Prelude.{slice_get}
use Rattle.std.proofs.Common.{Some, ap, sym, ◌∙◌}
use Rattle.std.proofs.lemmas.Option.{slice_get-get_or}
use Rattle.std.proofs.lemmas.Result.{err_from_is_err_and}
use Rattle.type_checks.specs.Checker.{texts_of}
use Rattle.type_checks.proofs.WholeLemmas.{before-none, before-more, before-all, first-found}
use Rattle.type_checks.proofs.entries.check_rules.Goals as goal

pub loop-j-init : goal.loop-j-init
loop-j-init c = before-none c.args.checker.now.tables.now (texts_of c.args.checker.now) c.args.all.now

pub check_entries-requires-clause-there : goal.check_entries-requires-clause-there
check_entries-requires-clause-there c = λ k e at.
    c.requires.there c.loop-j.j k c.index-all-j.result e (slice_get-get_or _ _ _ c.loop-j-test.true ∙ ap Some (sym c.index-all-j.is)) (ap (λ entries. slice_get entries k) (sym c.as_slice.ensures) ∙ at)

pub returns-in_err-check_entries-clause-err : goal.returns-in_err-check_entries-clause-err
returns-in_err-check_entries-clause-err c =
    let p = err_from_is_err_and c.from_residual.result c.from_residual.ensures.1 in
    rw (p.1, p.2) (first-found c.args.checker.now.tables.now (texts_of c.args.checker.now) c.args.all.now c.loop-j.j c.index-all-j.result c.as_slice.result.now _
    (slice_get-get_or _ _ _ c.loop-j-test.true ∙ ap Some (sym c.index-all-j.is)) c.as_slice.ensures c.loop-j.invariant c.in_err-check_entries.ensures.err)

pub loop-j-preserved : goal.loop-j-preserved
loop-j-preserved c =
    before-more c.args.checker.now.tables.now (texts_of c.args.checker.now) c.args.all.now c.loop-j.j c.index-all-j.result c.as_slice.result.now
    (slice_get-get_or _ _ _ c.loop-j-test.true ∙ ap Some (sym c.index-all-j.is)) c.as_slice.ensures c.loop-j.invariant c.in_ok-check_entries.ensures.ok

pub returns-clause-ok : goal.returns-clause-ok
returns-clause-ok c = before-all c.args.checker.now.tables.now (texts_of c.args.checker.now) c.args.all.now c.loop-j.j c.loop-j-test.false c.loop-j.invariant
