use Rattle.flat_grammar.proofs.SoundPlanLemmas.{IsSound-no_fault}
use Rattle.flat_grammar.proofs.laws.sound_plan_has_no_fault.Goals as goal

pub returns : goal.returns
returns c = λ symbols rules visits seqs sound i p c f. IsSound-no_fault symbols rules visits seqs sound i p c f
