use Rattle.tree_flattener.proofs.RoleLemmas.{has_role}
use Rattle.tree_flattener.proofs.laws.each_flat_node_has_a_role.Goals as goal

pub returns : goal.returns
returns g c = λ rules shapes W F node_of shaped f n inside. has_role rules shapes W F node_of shaped f n inside
