use Rattle.std.proofs.lemmas.Result.{IfOk-weaker, IfErr-weaker}
use Rattle.std.specs.Prelude.{◌∷◌, []}
use Rattle.lido_base.proofs.Lists.{contains-here}
use Rattle.std.proofs.Common.{subst, sym}
use Rattle.expr_types.specs.Wanted.{AreAllThere}
use Rattle.expr_types.proofs.ComputationLemmas.{there-one, condition-found, typed-condition, no-condition}
use Rattle.expr_types.proofs.computations.check_condition.Goals as goal

pub check_value-requires-clause-there : goal.check_value-requires-clause-there
check_value-requires-clause-there c =
    let e = c.in-Some.value.now in
    there-one c.args.scope.now (e ∷ []) e (subst (AreAllThere c.args.scope.now) (sym c.in-Some.ensures) c.requires.there) (contains-here e [])

pub returns-in-Some-clause-ok : goal.returns-in-Some-clause-ok
returns-in-Some-clause-ok c = IfOk-weaker c.check_value.result _ _ (λ done x. typed-condition c.args.scope.now c.args.target.now c.in-Some.value.now c.in-Some.ensures x) c.check_value.ensures.ok

pub returns-in-Some-clause-err : goal.returns-in-Some-clause-err
returns-in-Some-clause-err c = IfErr-weaker c.check_value.result _ _ (λ f x. condition-found c.args.scope.now c.args.target.now c.in-Some.value.now f c.in-Some.ensures x) c.check_value.ensures.err

pub returns-in-None-clause-ok : goal.returns-in-None-clause-ok
returns-in-None-clause-ok c = no-condition c.args.scope.now c.args.target.now c.in-None.ensures
