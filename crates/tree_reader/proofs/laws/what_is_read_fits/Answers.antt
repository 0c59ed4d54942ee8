use Rattle.tree_reader.proofs.ReadFits.{read_fits}
use Rattle.tree_reader.proofs.laws.what_is_read_fits.Goals as goal

pub returns : goal.returns
returns c = λ symbols rules shapes root texts formed name_at name coordinates below end t ints means. read_fits symbols rules shapes root texts formed name_at name coordinates below end t ints means
