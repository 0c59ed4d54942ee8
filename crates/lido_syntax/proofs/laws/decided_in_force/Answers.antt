use Rattle.lido_syntax.proofs.DecidedLemmas.{dec_computation, dec_in_force}
use Rattle.lido_syntax.proofs.laws.decided_in_force.Goals as goal

pub returns : goal.returns
returns c = record { at_occurrence = dec_computation; at_node = dec_in_force }
