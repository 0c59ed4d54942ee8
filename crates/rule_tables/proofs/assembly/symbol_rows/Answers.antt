use Rattle.std.proofs.Common.{inr}
use Rattle.rule_tables.proofs.assembly.symbol_rows.Goals as goal

pub rows-requires-clause-numbered : goal.rows-requires-clause-numbered
rows-requires-clause-numbered c item x m k = c.requires.numbered item x m (inr k)
