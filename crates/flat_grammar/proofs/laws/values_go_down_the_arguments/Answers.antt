use Rattle.flat_grammar.proofs.ExpressionsLemmas.{value-Apply, value-If, value-Order}
use Rattle.flat_grammar.proofs.laws.values_go_down_the_arguments.Goals as goal

pub returns-clause-call : goal.returns-clause-call
returns-clause-call c = λ env t node_of B origin n comp op args. value-Apply env t node_of B origin n comp op args

pub returns-clause-choice : goal.returns-clause-choice
returns-clause-choice c = λ env t node_of B origin n args. value-If env t node_of B origin n args

pub returns-clause-order : goal.returns-clause-order
returns-clause-order c = λ env t node_of B origin n args. value-Order env t node_of B origin n args
