use Rattle.lido_reader.proofs.NumbersLemmas.{told_apart}
use Rattle.lido_reader.proofs.laws.numbers_tell_places.Goals as goal

pub returns : goal.returns
returns c = told_apart
