use Rattle.flat_grammar.proofs.ExpressionsLemmas.{reads-Apply, reads-If, reads-Order}
use Rattle.flat_grammar.proofs.laws.reads_go_down_the_arguments.Goals as goal

pub returns-clause-call : goal.returns-clause-call
returns-clause-call c = λ comp op args. reads-Apply comp op args

pub returns-clause-choice : goal.returns-clause-choice
returns-clause-choice c = λ args. reads-If args

pub returns-clause-order : goal.returns-clause-order
returns-clause-order c = λ args. reads-Order args
