use Rattle.std.specs.Prelude.{refl}
use Rattle.std.specs.Fmt.{digits}
use Rattle.lido_base.specs.Operations.{operate}
use Rattle.trials_of_values.proofs.operations.worked_expressions.Goals as goal

pub returns-clause-if_false : goal.returns-clause-if_false
unfolding operate digits
returns-clause-if_false c = refl

pub returns-clause-if_true : goal.returns-clause-if_true
unfolding operate digits
returns-clause-if_true c = refl

pub returns-clause-if_bad : goal.returns-clause-if_bad
unfolding operate digits
returns-clause-if_bad c = refl

pub returns-clause-difference : goal.returns-clause-difference
unfolding operate digits
returns-clause-difference c = refl

pub returns-clause-remainder : goal.returns-clause-remainder
unfolding operate digits
returns-clause-remainder c = refl

pub returns-clause-ordered : goal.returns-clause-ordered
unfolding operate digits
returns-clause-ordered c = refl

pub returns-clause-ordered_bad : goal.returns-clause-ordered_bad
unfolding operate digits
returns-clause-ordered_bad c = refl
