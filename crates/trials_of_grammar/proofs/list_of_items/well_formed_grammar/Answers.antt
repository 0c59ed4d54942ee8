use Rattle.trials_of_grammar.proofs.ListOfItems.{well-formed, missing, twice, elsewhere}
use Rattle.trials_of_grammar.proofs.list_of_items.well_formed_grammar.Goals as goal

pub returns-clause-met : goal.returns-clause-met
returns-clause-met c = well-formed

pub returns-clause-goal_missing : goal.returns-clause-goal_missing
returns-clause-goal_missing c = missing

pub returns-clause-goal_twice : goal.returns-clause-goal_twice
returns-clause-goal_twice c = twice

pub returns-clause-cell_elsewhere : goal.returns-clause-cell_elsewhere
returns-clause-cell_elsewhere c = elsewhere
