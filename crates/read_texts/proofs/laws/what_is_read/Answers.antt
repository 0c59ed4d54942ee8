use Rattle.read_texts.proofs.IdLemmas.{all_is_read}
use Rattle.read_texts.proofs.laws.what_is_read.Goals as goal

pub returns : goal.returns
returns c = all_is_read
