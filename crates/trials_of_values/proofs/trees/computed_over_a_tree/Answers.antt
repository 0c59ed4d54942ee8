use Rattle.std.specs.Prelude.{refl}
use Rattle.lido_base.specs.Tree.{ancestors, from_children}
use Rattle.trials_of_values.proofs.trees.computed_over_a_tree.Goals as goal

pub returns-clause-above_the_root : goal.returns-clause-above_the_root
unfolding ancestors from_children
returns-clause-above_the_root c = refl

pub returns-clause-above_an_item : goal.returns-clause-above_an_item
unfolding ancestors from_children
returns-clause-above_an_item c = refl

pub returns-clause-above_a_nested_item : goal.returns-clause-above_a_nested_item
unfolding ancestors from_children
returns-clause-above_a_nested_item c = refl

pub returns-clause-above_no_node : goal.returns-clause-above_no_node
unfolding ancestors from_children
returns-clause-above_no_node c = refl

pub returns-clause-all : goal.returns-clause-all
unfolding ancestors from_children
returns-clause-all c = refl

pub returns-clause-of_the_group : goal.returns-clause-of_the_group
unfolding ancestors from_children
returns-clause-of_the_group c = refl

pub returns-clause-of_an_item : goal.returns-clause-of_an_item
unfolding ancestors from_children
returns-clause-of_an_item c = refl
