use Rattle.induced_deps.specs.Rows.{IsIn}
use Rattle.induced_deps.proofs.row.Row.has.Goals as goal

pub returns : goal.returns
unfolding IsIn
returns c = c.has.ensures
