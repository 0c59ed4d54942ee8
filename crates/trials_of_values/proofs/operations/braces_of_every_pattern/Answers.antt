use Rattle.trials_of_values.proofs.BracesLemmas.{filled, empty}
use Rattle.trials_of_values.proofs.operations.braces_of_every_pattern.Goals as goal

pub returns-clause-filled : goal.returns-clause-filled
returns-clause-filled c = filled

pub returns-clause-empty : goal.returns-clause-empty
returns-clause-empty c = empty
