use Rattle.lido_reader.proofs.KnownLemmas.{all_words}
use Rattle.lido_reader.proofs.laws.names_are_words.Goals as goal

pub returns : goal.returns
returns c = all_words
