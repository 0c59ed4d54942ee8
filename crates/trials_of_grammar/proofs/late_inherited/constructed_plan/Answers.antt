use Rattle.trials_of_grammar.proofs.LateInheritedConstruction.{constructed}
use Rattle.trials_of_grammar.proofs.late_inherited.constructed_plan.Goals as goal

pub returns : goal.returns
returns c = constructed
