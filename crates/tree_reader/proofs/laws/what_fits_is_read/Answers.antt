use Rattle.tree_reader.proofs.FitsRead.{fits_read}
use Rattle.tree_reader.proofs.laws.what_fits_is_read.Goals as goal

pub returns : goal.returns
returns c = λ symbols rules shapes root texts formed apart t fits name_at name coordinates below end few written. fits_read symbols rules shapes root texts formed apart t fits name_at name coordinates below end few written
