use Rattle.std.specs.Prelude.{refl}
use Rattle.lido_base.specs.Tree.{ancestors}
use Rattle.lido_base.proofs.TreeTests.{IsTested, tested-IsTree}
use Rattle.trials_of_values.specs.Tables.{listed}
use Rattle.trials_of_values.proofs.trees.a_tree_with_lists.Goals as goal

tested : IsTested listed
unfolding ancestors
tested = record {
  has_root = refl;
  root_first = refl;
  root_place = refl;
  in_preorder = refl;
  items_agree = refl;
  children_inside = refl;
  parents_inside = refl;
  children_ascend = refl;
  places_agree = refl;
}

pub returns-clause-tree : goal.returns-clause-tree
returns-clause-tree c = tested-IsTree listed tested
