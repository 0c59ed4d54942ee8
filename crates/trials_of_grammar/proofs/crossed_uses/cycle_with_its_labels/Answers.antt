use Rattle.trials_of_grammar.proofs.CrossedUses.{circular, not-ordered, label-wrong, start-wrong}
use Rattle.trials_of_grammar.proofs.crossed_uses.cycle_with_its_labels.Goals as goal

pub returns-clause-met : goal.returns-clause-met
returns-clause-met c = circular

pub returns-clause-not_ordered : goal.returns-clause-not_ordered
returns-clause-not_ordered c = not-ordered

pub returns-clause-wrong_label : goal.returns-clause-wrong_label
returns-clause-wrong_label c = label-wrong

pub returns-clause-wrong_start : goal.returns-clause-wrong_start
returns-clause-wrong_start c = start-wrong
