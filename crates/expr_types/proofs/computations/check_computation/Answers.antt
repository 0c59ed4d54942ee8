use Rattle.std.proofs.lemmas.Result.{err_from_is_err_and, IfOk-weaker, IfErr-weaker}
use Rattle.expr_types.proofs.ComputationLemmas.{there-value, there-after, value-found, behind-found, whole-typed}
use Rattle.expr_types.proofs.computations.check_computation.Goals as goal

pub check_value-requires-clause-there : goal.check_value-requires-clause-there
check_value-requires-clause-there c = there-value c.args.scope.now c.args.comp.now c.requires.there

pub returns-in_err-check_value-clause-err : goal.returns-in_err-check_value-clause-err
returns-in_err-check_value-clause-err c =
    let p = err_from_is_err_and c.from_residual-in_err-check_value.result c.from_residual-in_err-check_value.ensures.1 in
    rw (p.1, p.2) (value-found c.args.scope.now c.args.wanted c.args.comp.now _ c.in_ok-check_condition.ensures.ok c.in_err-check_value.ensures.err)

pub check_after-requires-clause-there : goal.check_after-requires-clause-there
check_after-requires-clause-there c = there-after c.args.scope.now c.args.comp.now c.as_slice.result.now c.as_slice.ensures c.requires.there

pub returns-clause-ok : goal.returns-clause-ok
returns-clause-ok c = IfOk-weaker c.check_after.result _ _
    (λ done all goal by. whole-typed c.args.scope.now c.args.wanted c.args.comp.now c.as_slice.result.now goal c.as_slice.ensures c.in_ok-check_condition.ensures.ok c.in_ok-check_value.ensures.ok all by)
    c.check_after.ensures.ok

pub returns-clause-err : goal.returns-clause-err
returns-clause-err c = IfErr-weaker c.check_after.result _ _
    (λ f x. behind-found c.args.scope.now c.args.wanted c.args.comp.now c.as_slice.result.now f c.as_slice.ensures c.in_ok-check_condition.ensures.ok c.in_ok-check_value.ensures.ok x)
    c.check_after.ensures.err
