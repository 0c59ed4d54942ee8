use Rattle.lido_syntax.proofs.ComputationLemmas.{one_in_force}
use Rattle.lido_syntax.proofs.laws.one_computation_in_force.Goals as goal

pub returns : goal.returns
returns c = one_in_force
