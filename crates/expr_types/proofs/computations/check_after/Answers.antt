use Rattle.std.proofs.lemmas.Result.{err_from_is_err_and}
use Rattle.expr_types.proofs.ComputationLemmas.{there-item, after-found, after-more, after-all}
use Rattle.expr_types.proofs.computations.check_after.Goals as goal

pub type_of-requires-clause-there : goal.type_of-requires-clause-there
type_of-requires-clause-there c = there-item c.args.scope.now c.args.after.now c.loop-value.value-index c.value-item.result c.loop-value-test.true c.value-item.is c.requires.there

pub returns-in_err-type_of-clause-err : goal.returns-in_err-type_of-clause-err
returns-in_err-type_of-clause-err c =
    let p = err_from_is_err_and c.from_residual.result c.from_residual.ensures.1 in
    rw (p.1, p.2) (after-found c.args.scope.now c.args.after.now c.loop-value.value-index c.value-item.result _ c.loop-value-test.true c.value-item.is c.loop-value.invariant c.in_err-type_of.ensures.err)

pub loop-value-preserved : goal.loop-value-preserved
loop-value-preserved c =
    after-more c.args.scope.now c.args.after.now c.loop-value.value-index c.value-item.result c.in_ok-type_of.field-0 c.loop-value-test.true c.value-item.is c.loop-value.invariant c.in_ok-type_of.ensures.ok

pub returns-clause-ok : goal.returns-clause-ok
returns-clause-ok c = after-all c.args.scope.now c.args.after.now c.loop-value.value-index c.loop-value-test.false c.loop-value.invariant
