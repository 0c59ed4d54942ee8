use Rattle.std.specs.Prelude.{refl}
use Rattle.std.specs.Fmt.{digits}
use Rattle.lido_base.specs.Operations.{operate}
use Rattle.trials_of_values.proofs.operations.braces.Goals as goal

pub returns-clause-filled : goal.returns-clause-filled
unfolding operate digits
returns-clause-filled c = refl

pub returns-clause-empty : goal.returns-clause-empty
unfolding operate digits
returns-clause-empty c = refl

pub returns-clause-no_text : goal.returns-clause-no_text
unfolding operate digits
returns-clause-no_text c = refl

pub returns-clause-both_filled : goal.returns-clause-both_filled
unfolding operate digits
returns-clause-both_filled c = refl

pub returns-clause-outside_empty : goal.returns-clause-outside_empty
unfolding operate digits
returns-clause-outside_empty c = refl

pub returns-clause-inside_empty : goal.returns-clause-inside_empty
unfolding operate digits
returns-clause-inside_empty c = refl

pub returns-clause-skipped : goal.returns-clause-skipped
unfolding operate digits
returns-clause-skipped c = refl

pub returns-clause-empty_string : goal.returns-clause-empty_string
unfolding operate digits
returns-clause-empty_string c = refl

pub returns-clause-second_pattern : goal.returns-clause-second_pattern
unfolding operate digits
returns-clause-second_pattern c = refl
