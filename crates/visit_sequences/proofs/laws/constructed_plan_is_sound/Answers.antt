use Rattle.visit_sequences.proofs.PlanLemmas.{plan-sound}
use Rattle.visit_sequences.proofs.laws.constructed_plan_is_sound.Goals as goal

pub returns : goal.returns
returns c = λ symbols rules shapes root visits seqs w ordered all made. plan-sound symbols rules shapes root w visits all ordered seqs made
