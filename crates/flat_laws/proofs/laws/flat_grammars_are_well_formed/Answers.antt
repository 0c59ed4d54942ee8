use Rattle.flat_laws.proofs.WellFormedLemmas.{well-formed}
use Rattle.flat_laws.proofs.laws.flat_grammars_are_well_formed.Goals as goal

pub returns : goal.returns
returns c = well-formed
