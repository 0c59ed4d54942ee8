use Rattle.std.proofs.lemmas.Result.{err_from_is_err_and, IfOk-weaker, IfErr-weaker}
use Rattle.table_faults.proofs.CheckLemmas.{in-names, in-kinds, in-places, in-limits, in-none}
use Rattle.table_faults.proofs.checks.check.Goals as goal

pub returns-in_err-check_names-clause-err : goal.returns-in_err-check_names-clause-err
returns-in_err-check_names-clause-err c =
    let p = err_from_is_err_and c.from_residual-in_err-check_names.result c.from_residual-in_err-check_names.ensures.1 in
    rw (p.1, p.2) (in-names c.args.spec.now c.args.strings.now _ c.in_err-check_names.ensures.err)

pub returns-in_err-check_kinds-clause-err : goal.returns-in_err-check_kinds-clause-err
returns-in_err-check_kinds-clause-err c =
    let p = err_from_is_err_and c.from_residual-in_err-check_kinds.result c.from_residual-in_err-check_kinds.ensures.1 in
    rw (p.1, p.2) (in-kinds c.args.spec.now c.args.strings.now _ c.in_ok-check_names.ensures.ok c.in_err-check_kinds.ensures.err)

pub returns-in_err-check_places-clause-err : goal.returns-in_err-check_places-clause-err
returns-in_err-check_places-clause-err c =
    let p = err_from_is_err_and c.from_residual-in_err-check_places.result c.from_residual-in_err-check_places.ensures.1 in
    rw (p.1, p.2) (in-places c.args.spec.now c.args.strings.now _ c.in_ok-check_names.ensures.ok c.in_ok-check_kinds.ensures.ok c.in_err-check_places.ensures.err)

pub returns-clause-ok : goal.returns-clause-ok
returns-clause-ok c = IfOk-weaker c.check_limits.result _ _
    (λ done limits. in-none c.args.spec.now c.args.strings.now c.in_ok-check_names.ensures.ok c.in_ok-check_kinds.ensures.ok c.in_ok-check_places.ensures.ok limits) c.check_limits.ensures.ok

pub returns-clause-err : goal.returns-clause-err
returns-clause-err c = IfErr-weaker c.check_limits.result _ _
    (λ f first. in-limits c.args.spec.now c.args.strings.now f c.in_ok-check_names.ensures.ok c.in_ok-check_kinds.ensures.ok c.in_ok-check_places.ensures.ok first) c.check_limits.ensures.err
