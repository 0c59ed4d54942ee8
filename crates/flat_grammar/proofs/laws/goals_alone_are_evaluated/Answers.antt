use Rattle.flat_grammar.proofs.SoundPlanLemmas.{goals-alone}
use Rattle.flat_grammar.proofs.laws.goals_alone_are_evaluated.Goals as goal

pub returns : goal.returns
returns c = λ symbols visits r seq sound place o e. goals-alone symbols visits r seq sound place o e
