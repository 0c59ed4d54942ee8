use Rattle.lido_reader.proofs.KnownLemmas.{one_name}
use Rattle.lido_reader.proofs.laws.places_tell_names.Goals as goal

pub returns : goal.returns
returns c = one_name
