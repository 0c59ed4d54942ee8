use Rattle.flat_grammar.proofs.ExpressionsLemmas.{cells-Apply, cells-If, cells-Order}
use Rattle.flat_grammar.proofs.laws.text_cells_go_down_the_arguments.Goals as goal

pub returns-clause-call : goal.returns-clause-call
returns-clause-call c = λ comp op args. cells-Apply comp op args

pub returns-clause-choice : goal.returns-clause-choice
returns-clause-choice c = λ args. cells-If args

pub returns-clause-order : goal.returns-clause-order
returns-clause-order c = λ args. cells-Order args
