use Rattle.read_texts.proofs.IdLemmas.{ids_of_texts}
use Rattle.read_texts.proofs.laws.read_names.Goals as goal

pub returns : goal.returns
returns c = ids_of_texts
