use Rattle.trials_of_grammar.proofs.LateInheritedPlan.{whole}
use Rattle.trials_of_grammar.proofs.late_inherited.whole_order_of_the_tree.Goals as goal

pub returns : goal.returns
returns c = whole
