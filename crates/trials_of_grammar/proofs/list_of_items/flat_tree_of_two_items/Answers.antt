use Rattle.trials_of_grammar.proofs.ItemTrees.{written-tree, cells-tree, flat-tree, end-left-out, line-of-the-element, column-of-the-element}
use Rattle.trials_of_grammar.proofs.list_of_items.flat_tree_of_two_items.Goals as goal

pub returns-clause-written : goal.returns-clause-written
returns-clause-written c = written-tree

pub returns-clause-flat : goal.returns-clause-flat
returns-clause-flat c = cells-tree

pub returns-clause-met : goal.returns-clause-met
returns-clause-met c = flat-tree

pub returns-clause-end_left_out : goal.returns-clause-end_left_out
returns-clause-end_left_out c = end-left-out

pub returns-clause-line_of_the_element : goal.returns-clause-line_of_the_element
returns-clause-line_of_the_element c = line-of-the-element

pub returns-clause-column_of_the_element : goal.returns-clause-column_of_the_element
returns-clause-column_of_the_element c = column-of-the-element
