use Rattle.trials_of_grammar.proofs.LateInheritedVisits.{all-visits}
use Rattle.trials_of_grammar.proofs.late_inherited.peeled_visits.Goals as goal

pub returns : goal.returns
returns c = all-visits
