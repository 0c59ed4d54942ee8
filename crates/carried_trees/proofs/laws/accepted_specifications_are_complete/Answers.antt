use Rattle.carried_trees.proofs.CompletenessLemmas.{complete}
use Rattle.carried_trees.proofs.laws.accepted_specifications_are_complete.Goals as goal

pub returns : goal.returns
returns c = complete
