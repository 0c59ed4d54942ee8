use Rattle.clear_tables.proofs.ClearLemmas.{are-clear}
use Rattle.clear_tables.proofs.laws.clear_specifications.Goals as goal

pub returns : goal.returns
returns c = are-clear
