use Rattle.trials_of_grammar.proofs.LateInheritedPlan.{sound}
use Rattle.trials_of_grammar.proofs.late_inherited.sound_plan.Goals as goal

pub returns : goal.returns
returns c = sound
