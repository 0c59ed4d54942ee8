use Rattle.std.specs.Prelude.{IsTrue, refl}
use Rattle.std.proofs.Common.{subst, sym, ◌∙◌}
use Rattle.expr_types.specs.Callees.{function_in}
use Rattle.expr_types.specs.Functions.{environment_of}
use Rattle.expr_types.specs.Faults as faults
use Rattle.expr_types.proofs.CalleeLemmas.{gives-other}
use Rattle.expr_types.proofs.withs.check_named.Goals as goal

pub returns-then-not-takes_many-clause-err : goal.returns-then-not-takes_many-clause-err
returns-then-not-takes_many-clause-err c = faults.count (function_in c.in-Some.callee) (sym c.in-Some.ensures) (c.takes_many.ensures.none c.if-not-takes_many.true)

pub returns-in-None-clause-err : goal.returns-in-None-clause-err
returns-in-None-clause-err c = faults.unknown (sym c.in-None.ensures)

pub returns-else-eq-clause-err : goal.returns-else-eq-clause-err
returns-else-eq-clause-err c =
    let function = function_in c.in-Some.callee in
    faults.types function (sym c.in-Some.ensures) (c.takes_many.ensures.some (subst IsTrue (sym c.if-not-takes_many.false) refl))
    (gives-other (environment_of c.args.functions.now) c.args.name function c.args.args.now c.given.result c.args.ty (sym c.in-Some.ensures)
    (sym c.eq.ensures ∙ c.if-eq.false) c.given.ensures.some c.given.ensures.none)
