use Rattle.string_librarian.proofs.DenotesLemmas.{text_length}
use Rattle.string_librarian.proofs.laws.descriptors_have_lengths.Goals as goal

pub returns : goal.returns
returns c = text_length
