use Rattle.std.specs.Prelude.{refl}
use Rattle.std.specs.Fmt.{digits}
use Rattle.lido_base.specs.Operations.{operate}
use Rattle.trials_of_values.proofs.operations.kept_values.Goals as goal

pub returns-clause-void : goal.returns-clause-void
unfolding operate digits
returns-clause-void c = refl

pub returns-clause-bad : goal.returns-clause-bad
unfolding operate digits
returns-clause-bad c = refl

pub returns-clause-int : goal.returns-clause-int
unfolding operate digits
returns-clause-int c = refl

pub returns-clause-bad_int : goal.returns-clause-bad_int
unfolding operate digits
returns-clause-bad_int c = refl
