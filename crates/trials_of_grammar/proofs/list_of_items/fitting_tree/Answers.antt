use Rattle.trials_of_grammar.proofs.ItemTrees.{fitting, list-no-item, eight-instances, two-text_cells}
use Rattle.trials_of_grammar.proofs.list_of_items.fitting_tree.Goals as goal

pub returns-clause-met : goal.returns-clause-met
returns-clause-met c = fitting

pub returns-clause-list_no_item : goal.returns-clause-list_no_item
returns-clause-list_no_item c = list-no-item

pub returns-clause-instances : goal.returns-clause-instances
returns-clause-instances c = eight-instances

pub returns-clause-text_cells : goal.returns-clause-text_cells
returns-clause-text_cells c = two-text_cells
