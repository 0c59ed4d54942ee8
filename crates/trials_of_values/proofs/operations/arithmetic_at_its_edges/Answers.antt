use Rattle.std.specs.Prelude.{refl}
use Rattle.std.specs.Fmt.{digits}
use Rattle.lido_base.specs.Operations.{operate}
use Rattle.trials_of_values.proofs.operations.arithmetic_at_its_edges.Goals as goal

pub returns-clause-least_by_minus_one : goal.returns-clause-least_by_minus_one
unfolding operate digits
returns-clause-least_by_minus_one c = refl

pub returns-clause-least_rem_minus_one : goal.returns-clause-least_rem_minus_one
unfolding operate digits
returns-clause-least_rem_minus_one c = refl

pub returns-clause-negated_least : goal.returns-clause-negated_least
unfolding operate digits
returns-clause-negated_least c = refl

pub returns-clause-negated_greatest : goal.returns-clause-negated_greatest
unfolding operate digits
returns-clause-negated_greatest c = refl

pub returns-clause-sum : goal.returns-clause-sum
unfolding operate digits
returns-clause-sum c = refl

pub returns-clause-sum_that_fits : goal.returns-clause-sum_that_fits
unfolding operate digits
returns-clause-sum_that_fits c = refl

pub returns-clause-difference : goal.returns-clause-difference
unfolding operate digits
returns-clause-difference c = refl

pub returns-clause-difference_that_fits : goal.returns-clause-difference_that_fits
unfolding operate digits
returns-clause-difference_that_fits c = refl

pub returns-clause-product : goal.returns-clause-product
unfolding operate digits
returns-clause-product c = refl

pub returns-clause-product_that_fits : goal.returns-clause-product_that_fits
unfolding operate digits
returns-clause-product_that_fits c = refl

pub returns-clause-least_stays : goal.returns-clause-least_stays
unfolding operate digits
returns-clause-least_stays c = refl
