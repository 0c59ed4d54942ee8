use Rattle.std.proofs.Common.{arith, subst, sym, inr}
use Rattle.std.proofs.lemmas.Result.{err_from_is_err_and, IfOk-weaker, IfErr-weaker}
use Rattle.expr_types.specs.Callees.{function_in}
use Rattle.expr_types.specs.Faults.{TakesMany}
use Rattle.expr_types.specs.Scopes.{texts_of, HasTypeIn}
use Rattle.expr_types.proofs.ArgumentLemmas.{each-count}
use Rattle.expr_types.proofs.CalleeLemmas.{one-count}
use Rattle.expr_types.proofs.ExpressionLemmas.{parts-fall, no-callee, argument-there, argument-found, more-typed, all-typed, given-typed, misfit-found}
use Rattle.expr_types.proofs.expressions.+type_of.Goals as goal

pub returns-in_err-callee-in-Call-clause-err : goal.returns-in_err-callee-in-Call-clause-err
returns-in_err-callee-in-Call-clause-err t c =
    let p = err_from_is_err_and c.from_residual.result c.from_residual.ensures.1 in
    rw (p.1, p.2) (inr (no-callee c.args.scope.now c.args.value.now c.in-Call.name c.in-Call.args c.as_slice-args.result.now _ c.in-Call.is c.as_slice-args.ensures c.in_err-callee-in-Call.ensures.err))

pub type_of-requires : goal.type_of-requires
type_of-requires t c = (
  (let fall = parts-fall c.args.value.now c.in-Call.name c.in-Call.args c.as_slice-args.result.now c.loop-arg.arg-index c.arg-item.result
      c.in-Call.is c.as_slice-args.ensures c.loop-arg-test.true c.arg-item.is in omega (arith, fall, c.decreases)),
  (
    c.requires.scope,
    argument-there c.args.scope.now c.args.value.now c.in-Call.name c.in-Call.args c.as_slice-args.result.now c.loop-arg.arg-index c.arg-item.result
        c.in-Call.is c.as_slice-args.ensures c.loop-arg-test.true c.arg-item.is c.requires.there,
  ),
)

pub returns-in_err-ty-in-Call-clause-err : goal.returns-in_err-ty-in-Call-clause-err
returns-in_err-ty-in-Call-clause-err t c =
    let p = err_from_is_err_and c.from_residual-in_err-ty-in-Call.result c.from_residual-in_err-ty-in-Call.ensures.1 in
    rw (p.1, p.2) (argument-found c.args.scope.now c.args.value.now c.in-Call.name c.in-Call.args c.as_slice-args.result.now (function_in c.in_ok-callee-in-Call.callee)
    c.loop-arg.arg-index c.arg-item.result c.loop-arg.types.items _ c.in-Call.is c.as_slice-args.ensures c.loop-arg-test.true c.arg-item.is
    c.in_ok-callee-in-Call.ensures.ok c.loop-arg.invariant c.in_err-ty-in-Call.ensures.err)

pub loop-arg-preserved : goal.loop-arg-preserved
loop-arg-preserved t c =
    more-typed c.args.scope.now c.as_slice-args.result.now c.loop-arg.arg-index c.arg-item.result c.loop-arg.types.items c.push.new.types.items c.in_ok-ty-in-Call.ty
    c.loop-arg-test.true c.arg-item.is c.loop-arg.invariant c.in_ok-ty-in-Call.ensures.ok c.in_ok-push-in-Call.ensures

pub given-requires-clause-many : goal.given-requires-clause-many
given-requires-clause-many t c =
    let each = all-typed c.args.scope.now c.as_slice-args.result.now c.loop-arg.arg-index c.loop-arg.types.items c.deref.result.now c.loop-arg-test.false c.loop-arg.invariant c.deref.ensures.value in
    subst (TakesMany (function_in c.in_ok-callee-in-Call.callee)) (sym (each-count (HasTypeIn c.args.scope.now) c.as_slice-args.result.now c.deref.result.now each))
    c.in_ok-callee-in-Call.ensures.ok.1

pub given-requires-clause-one_count : goal.given-requires-clause-one_count
given-requires-clause-one_count t c = one-count (texts_of c.args.scope.now) c.in-Call.name (function_in c.in_ok-callee-in-Call.callee) c.in_ok-callee-in-Call.ensures.ok.0

pub given-requires-clause-each : goal.given-requires-clause-each
given-requires-clause-each t c =
    let each = all-typed c.args.scope.now c.as_slice-args.result.now c.loop-arg.arg-index c.loop-arg.types.items c.deref.result.now c.loop-arg-test.false c.loop-arg.invariant c.deref.ensures.value in
    sym (each-count (HasTypeIn c.args.scope.now) c.as_slice-args.result.now c.deref.result.now each)

pub returns-after-loop-arg-clause-ok : goal.returns-after-loop-arg-clause-ok
returns-after-loop-arg-clause-ok t c =
    let each = all-typed c.args.scope.now c.as_slice-args.result.now c.loop-arg.arg-index c.loop-arg.types.items c.deref.result.now c.loop-arg-test.false c.loop-arg.invariant c.deref.ensures.value in
    IfOk-weaker c.given.result _ _ (λ ty gives. given-typed c.args.scope.now c.args.value.now c.in-Call.name c.in-Call.args c.as_slice-args.result.now
    (function_in c.in_ok-callee-in-Call.callee) c.deref.result.now ty c.in-Call.is c.as_slice-args.ensures c.in_ok-callee-in-Call.ensures.ok each gives) c.given.ensures.ok

pub returns-after-loop-arg-clause-err : goal.returns-after-loop-arg-clause-err
returns-after-loop-arg-clause-err t c =
    let each = all-typed c.args.scope.now c.as_slice-args.result.now c.loop-arg.arg-index c.loop-arg.types.items c.deref.result.now c.loop-arg-test.false c.loop-arg.invariant c.deref.ensures.value in
    IfErr-weaker c.given.result _ _ (λ f misfit. inr (misfit-found c.args.scope.now c.args.value.now c.in-Call.name c.in-Call.args c.as_slice-args.result.now
    (function_in c.in_ok-callee-in-Call.callee) c.deref.result.now f c.in-Call.is c.as_slice-args.ensures c.in_ok-callee-in-Call.ensures.ok each misfit)) c.given.ensures.err
