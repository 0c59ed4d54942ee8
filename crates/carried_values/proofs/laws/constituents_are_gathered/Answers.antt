use Rattle.carried_values.proofs.SourceLemmas.{constituents-hold}
use Rattle.carried_values.proofs.laws.constituents_are_gathered.Goals as goal

pub returns : goal.returns
returns c = constituents-hold
