use Rattle.lido_reader.proofs.ReadingsLemmas.{one_reading}
use Rattle.lido_reader.proofs.laws.one_reading.Goals as goal

pub returns : goal.returns
returns c = one_reading
