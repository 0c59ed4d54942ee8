use Rattle.std.specs.Prelude.{refl}
use Rattle.std.specs.Fmt.{digits}
use Rattle.lido_base.specs.Operations.{operate}
use Rattle.trials_of_values.proofs.operations.division.Goals as goal

pub returns-clause-quotient : goal.returns-clause-quotient
unfolding operate digits
returns-clause-quotient c = refl

pub returns-clause-dividend_below_zero : goal.returns-clause-dividend_below_zero
unfolding operate digits
returns-clause-dividend_below_zero c = refl

pub returns-clause-divisor_below_zero : goal.returns-clause-divisor_below_zero
unfolding operate digits
returns-clause-divisor_below_zero c = refl

pub returns-clause-both_below_zero : goal.returns-clause-both_below_zero
unfolding operate digits
returns-clause-both_below_zero c = refl

pub returns-clause-remainder : goal.returns-clause-remainder
unfolding operate digits
returns-clause-remainder c = refl

pub returns-clause-remainder_below_zero : goal.returns-clause-remainder_below_zero
unfolding operate digits
returns-clause-remainder_below_zero c = refl

pub returns-clause-remainder_by_below_zero : goal.returns-clause-remainder_by_below_zero
unfolding operate digits
returns-clause-remainder_by_below_zero c = refl

pub returns-clause-remainder_of_both : goal.returns-clause-remainder_of_both
unfolding operate digits
returns-clause-remainder_of_both c = refl

pub returns-clause-by_zero : goal.returns-clause-by_zero
unfolding operate digits
returns-clause-by_zero c = refl

pub returns-clause-zero_by_zero : goal.returns-clause-zero_by_zero
unfolding operate digits
returns-clause-zero_by_zero c = refl

pub returns-clause-remainder_by_zero : goal.returns-clause-remainder_by_zero
unfolding operate digits
returns-clause-remainder_by_zero c = refl
