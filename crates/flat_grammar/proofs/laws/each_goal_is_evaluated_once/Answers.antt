use Rattle.flat_grammar.proofs.SoundPlanLemmas.{goals-once}
use Rattle.flat_grammar.proofs.laws.each_goal_is_evaluated_once.Goals as goal

pub returns : goal.returns
returns c = λ symbols visits r seq sound o m. goals-once symbols visits r seq sound o m
