use Rattle.lido_reader.proofs.NumbersLemmas.{includings_apart}
use Rattle.lido_reader.proofs.laws.includings_tell_places.Goals as goal

pub returns : goal.returns
returns c = includings_apart
