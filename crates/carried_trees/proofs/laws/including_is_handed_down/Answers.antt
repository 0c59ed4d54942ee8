use Rattle.carried_trees.proofs.IncludingLemmas.{including-holds}
use Rattle.carried_trees.proofs.laws.including_is_handed_down.Goals as goal

pub returns : goal.returns
returns c = including-holds
