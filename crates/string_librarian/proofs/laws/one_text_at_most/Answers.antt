use Rattle.string_librarian.proofs.DenotesLemmas.{one_text}
use Rattle.string_librarian.proofs.laws.one_text_at_most.Goals as goal

pub returns : goal.returns
returns c = one_text
