use Rattle.trials_of_types.proofs.SmallLemmas.{single}
use Rattle.trials_of_types.proofs.small.single_types.Goals as goal

pub returns : goal.returns
returns c = single
