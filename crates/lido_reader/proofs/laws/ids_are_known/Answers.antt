use Rattle.lido_reader.proofs.KnownLemmas.{all_known}
use Rattle.lido_reader.proofs.laws.ids_are_known.Goals as goal

pub returns : goal.returns
returns c = all_known
