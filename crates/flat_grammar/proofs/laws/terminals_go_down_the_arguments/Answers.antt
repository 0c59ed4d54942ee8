use Rattle.flat_grammar.proofs.ExpressionsLemmas.{terminals-Apply, terminals-If, terminals-Order}
use Rattle.flat_grammar.proofs.laws.terminals_go_down_the_arguments.Goals as goal

pub returns-clause-call : goal.returns-clause-call
returns-clause-call c = λ comp op args. terminals-Apply comp op args

pub returns-clause-choice : goal.returns-clause-choice
returns-clause-choice c = λ args. terminals-If args

pub returns-clause-order : goal.returns-clause-order
returns-clause-order c = λ args. terminals-Order args
