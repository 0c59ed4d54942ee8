use Rattle.tree_store.proofs.GrowthLemmas.{open_in}
use Rattle.tree_store.proofs.OpenLemmas.{open_root, open_upwards, open_added, open_parent, open_kept}
use Rattle.tree_store.proofs.laws.open_nodes.Goals as goal

pub returns-clause-node : goal.returns-clause-node
returns-clause-node g c = λ t p tree next. open_in t tree p next

pub returns-clause-root : goal.returns-clause-root
returns-clause-root g c = λ t tree. open_root t tree

pub returns-clause-upwards : goal.returns-clause-upwards
returns-clause-upwards g c = λ t p q tree next up. open_upwards t tree p q next up

pub returns-clause-added : goal.returns-clause-added
returns-clause-added g c = λ t rule parent line column. open_added t rule parent line column

pub returns-clause-parent : goal.returns-clause-parent
returns-clause-parent g c = λ t rule p line column tree next. open_parent t tree rule p line column next

pub returns-clause-terminal : goal.returns-clause-terminal
returns-clause-terminal g c = λ t p q v tree next. open_kept t tree p q v next
