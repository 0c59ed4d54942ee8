use Rattle.std.proofs.lemmas.Option.{slice_get-get_or}
use Rattle.std.proofs.lemmas.Result.{err_from_is_err_and}
use Rattle.type_checks.specs.Checker.{texts_of}
use Rattle.type_checks.proofs.WholeLemmas.{in-more, in-all, in-found}
use Rattle.type_checks.proofs.entries.check_entries.Goals as goal

pub check_entry-requires-clause-there : goal.check_entry-requires-clause-there
check_entry-requires-clause-there c = c.requires.there c.loop-entry.entry-index _ (slice_get-get_or _ _ _ c.loop-entry-test.true)

pub returns-in_err-check_entry-clause-err : goal.returns-in_err-check_entry-clause-err
returns-in_err-check_entry-clause-err c =
    let p = err_from_is_err_and c.from_residual.result c.from_residual.ensures.1 in
    rw (p.1, p.2) (in-found c.args.checker.now.tables.now (texts_of c.args.checker.now) c.args.j c.args.entries.now c.loop-entry.entry-index _ _
    (slice_get-get_or _ _ _ c.loop-entry-test.true) c.loop-entry.invariant c.in_err-check_entry.ensures.err)

pub loop-entry-preserved : goal.loop-entry-preserved
loop-entry-preserved c =
    in-more c.args.checker.now.tables.now (texts_of c.args.checker.now) c.args.j c.args.entries.now c.loop-entry.entry-index _
    (slice_get-get_or _ _ _ c.loop-entry-test.true) c.loop-entry.invariant c.in_ok-check_entry.ensures.ok

pub returns-clause-ok : goal.returns-clause-ok
returns-clause-ok c = in-all c.args.checker.now.tables.now (texts_of c.args.checker.now) c.args.j c.args.entries.now c.loop-entry.entry-index c.loop-entry-test.false c.loop-entry.invariant
