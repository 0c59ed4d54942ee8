use Rattle.std.proofs.Common.{ap, inr}
use Rattle.lido_syntax.specs.declared.fault.SpecFault.TheVariants as fault
use Rattle.expr_types.specs.Faults as faults
use Rattle.expr_types.proofs.computations.check_value.Goals as goal

pub returns-else-takes-clause-err : goal.returns-else-takes-clause-err
returns-else-takes-clause-err c = inr (λ sets.
    faults.not_taken c.in_ok-ty.ty (c.in_ok-ty.ensures.ok sets) (λ t. c.takes.ensures.no c.if-takes.false t) (ap (λ at. fault.TypeMismatch at) c.first_place.ensures))
