use Rattle.std.specs.Prelude.{refl}
use Rattle.std.specs.Fmt.{digits}
use Rattle.lido_base.specs.Operations.{operate}
use Rattle.trials_of_values.proofs.operations.plain_functions.Goals as goal

pub returns-clause-identical : goal.returns-clause-identical
unfolding operate digits
returns-clause-identical c = refl

pub returns-clause-zero : goal.returns-clause-zero
unfolding operate digits
returns-clause-zero c = refl

pub returns-clause-one : goal.returns-clause-one
unfolding operate digits
returns-clause-one c = refl

pub returns-clause-arg_to_one : goal.returns-clause-arg_to_one
unfolding operate digits
returns-clause-arg_to_one c = refl

pub returns-clause-null : goal.returns-clause-null
unfolding operate digits
returns-clause-null c = refl

pub returns-clause-number : goal.returns-clause-number
unfolding operate digits
returns-clause-number c = refl

pub returns-clause-number_below_zero : goal.returns-clause-number_below_zero
unfolding operate digits
returns-clause-number_below_zero c = refl

pub returns-clause-least_number : goal.returns-clause-least_number
unfolding operate digits
returns-clause-least_number c = refl

pub returns-clause-as_it_is : goal.returns-clause-as_it_is
unfolding operate digits
returns-clause-as_it_is c = refl

pub returns-clause-in_a_row : goal.returns-clause-in_a_row
unfolding operate digits
returns-clause-in_a_row c = refl

pub returns-clause-negated : goal.returns-clause-negated
unfolding operate digits
returns-clause-negated c = refl

pub returns-clause-both : goal.returns-clause-both
unfolding operate digits
returns-clause-both c = refl

pub returns-clause-either : goal.returns-clause-either
unfolding operate digits
returns-clause-either c = refl
