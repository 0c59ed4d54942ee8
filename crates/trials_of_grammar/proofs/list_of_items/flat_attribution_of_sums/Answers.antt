use Rattle.trials_of_grammar.proofs.ItemTrees.{sums-attribution, wrong-sums}
use Rattle.trials_of_grammar.proofs.list_of_items.flat_attribution_of_sums.Goals as goal

pub returns-clause-met : goal.returns-clause-met
returns-clause-met c = sums-attribution

pub returns-clause-element_forgotten : goal.returns-clause-element_forgotten
returns-clause-element_forgotten c = wrong-sums
