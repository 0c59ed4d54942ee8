use Rattle.tree_store.proofs.GrowthLemmas.{IsTree-grown, IsTree-leaf}
use Rattle.tree_store.proofs.laws.growing_keeps_a_tree.Goals as goal

pub returns-clause-node : goal.returns-clause-node
returns-clause-node g c = λ t rule parent line column tree next. IsTree-grown t tree rule parent line column next

pub returns-clause-terminal : goal.returns-clause-terminal
returns-clause-terminal g c = λ t p v tree next. IsTree-leaf t tree p v next
