use Rattle.std.specs.Prelude.{refl}
use Rattle.std.specs.Fmt.{digits}
use Rattle.lido_base.specs.Operations.{operate}
use Rattle.trials_of_values.proofs.operations.comparisons.Goals as goal

pub returns-clause-equal : goal.returns-clause-equal
unfolding operate digits
returns-clause-equal c = refl

pub returns-clause-longer : goal.returns-clause-longer
unfolding operate digits
returns-clause-longer c = refl

pub returns-clause-differs : goal.returns-clause-differs
unfolding operate digits
returns-clause-differs c = refl

pub returns-clause-ints : goal.returns-clause-ints
unfolding operate digits
returns-clause-ints c = refl

pub returns-clause-bools : goal.returns-clause-bools
unfolding operate digits
returns-clause-bools c = refl

pub returns-clause-other_bools : goal.returns-clause-other_bools
unfolding operate digits
returns-clause-other_bools c = refl

pub returns-clause-less : goal.returns-clause-less
unfolding operate digits
returns-clause-less c = refl

pub returns-clause-not_less : goal.returns-clause-not_less
unfolding operate digits
returns-clause-not_less c = refl

pub returns-clause-at_most : goal.returns-clause-at_most
unfolding operate digits
returns-clause-at_most c = refl

pub returns-clause-greater : goal.returns-clause-greater
unfolding operate digits
returns-clause-greater c = refl

pub returns-clause-at_least : goal.returns-clause-at_least
unfolding operate digits
returns-clause-at_least c = refl
