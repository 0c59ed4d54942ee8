use Rattle.clear_tables.proofs.WithinLemmas.{are-within}
use Rattle.clear_tables.proofs.laws.tables_within_limits.Goals as goal

pub returns : goal.returns
returns c = are-within
