use Rattle.tree_flattener.proofs.OneTreeLemmas.{same_tree, same_numbers, same_fitting}
use Rattle.tree_flattener.proofs.ShapeLemmas.{list_shape}
use Rattle.tree_flattener.proofs.laws.one_flat_tree.Goals as goal

pub returns-clause-shaped : goal.returns-clause-shaped
returns-clause-shaped g c = λ symbols rules shapes root W F G ns ms well shaped f h. (
  same_tree symbols rules shapes W shaped (list_shape symbols rules shapes root well) F G ns ms f h,
  same_numbers symbols rules shapes W shaped (list_shape symbols rules shapes root well) F G ns ms f h,
)

pub returns-clause-fitting : goal.returns-clause-fitting
returns-clause-fitting g c = λ symbols rules shapes root W F G ns ms well fits f h. same_fitting symbols rules shapes root well W fits F G ns ms f h
