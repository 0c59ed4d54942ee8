use Rattle.induced_deps.proofs.RowLemmas.{no_member}
use Rattle.induced_deps.proofs.row.Row.new.Goals as goal

pub returns : goal.returns
returns c = no_member
