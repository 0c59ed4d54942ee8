use Rattle.string_librarian.proofs.DenotesLemmas.{kept_text}
use Rattle.string_librarian.proofs.laws.more_deposits_keep_texts.Goals as goal

pub returns : goal.returns
returns c = λ texts patterns old new d bytes grown denotes. kept_text texts patterns old new grown d bytes denotes
