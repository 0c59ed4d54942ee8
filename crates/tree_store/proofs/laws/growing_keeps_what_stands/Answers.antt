use Rattle.tree_store.proofs.GrowthLemmas.{length-with_node}
use Rattle.tree_store.proofs.OpenLemmas.{parent_kept, ancestors_kept, item_kept}
use Rattle.tree_store.proofs.laws.growing_keeps_what_stands.Goals as goal

pub returns-clause-count : goal.returns-clause-count
returns-clause-count g c = λ t rule parent line column. length-with_node t rule parent line column

pub returns-clause-parents : goal.returns-clause-parents
returns-clause-parents g c = λ t rule p line column n inside. parent_kept t rule p line column n inside

pub returns-clause-ancestors : goal.returns-clause-ancestors
returns-clause-ancestors g c = λ t rule p line column n tree inside. ancestors_kept t rule p line column n tree inside

pub returns-clause-places : goal.returns-clause-places
returns-clause-places g c = λ t rule p line column n place x e. item_kept t rule p line column n place x e
