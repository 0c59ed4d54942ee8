use Rattle.std.specs.Prelude.{refl}
use Rattle.std.specs.Fmt.{digits}
use Rattle.trials_of_values.specs.Samples.{fails}
use Rattle.lido_base.specs.Operations.{operate}
use Rattle.trials_of_values.proofs.operations.bad_arguments.Goals as goal
use Rattle.trials_of_values.proofs.OperationsLemmas.{operate-bad}

pub returns-clause-and : goal.returns-clause-and
unfolding operate digits
returns-clause-and c = refl

pub returns-clause-or : goal.returns-clause-or
unfolding operate digits
returns-clause-or c = refl

pub returns-clause-of_two : goal.returns-clause-of_two
unfolding operate digits
returns-clause-of_two c = refl

pub returns-clause-before_its_own : goal.returns-clause-before_its_own
unfolding operate digits
returns-clause-before_its_own c = refl

pub returns-clause-one : goal.returns-clause-one
unfolding operate digits
returns-clause-one c = refl

pub returns-clause-skipped : goal.returns-clause-skipped
unfolding operate digits
returns-clause-skipped c = refl

pub returns-clause-first : goal.returns-clause-first
returns-clause-first c = λ texts patterns o before after bad fine. operate-bad texts patterns fails o before after bad fine
