use Rattle.read_texts.proofs.FromTextLemmas.{read_is_from_text}
use Rattle.read_texts.proofs.laws.read_specifications.Goals as goal

pub returns : goal.returns
returns c = read_is_from_text
