use Rattle.flat_grammar.proofs.SoundPlanLemmas.{IsUnsound-only}
use Rattle.flat_grammar.proofs.laws.plan_has_one_first_fault.Goals as goal

pub returns : goal.returns
returns c = λ symbols rules visits seqs i p c j q d f g. IsUnsound-only symbols rules visits seqs i p c j q d f g
