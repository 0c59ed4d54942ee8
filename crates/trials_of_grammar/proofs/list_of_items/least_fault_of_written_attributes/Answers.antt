use Rattle.trials_of_grammar.proofs.FaultyItems.{least, not-written}
use Rattle.trials_of_grammar.proofs.list_of_items.least_fault_of_written_attributes.Goals as goal

pub returns-clause-met : goal.returns-clause-met
returns-clause-met c = least

pub returns-clause-not_written : goal.returns-clause-not_written
returns-clause-not_written c = not-written
