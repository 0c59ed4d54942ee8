use Rattle.table_faults.proofs.DoubleTargets.{symbols-are}
use Rattle.table_faults.proofs.doubles.double_in_symbols.Goals as goal

pub returns : goal.returns
returns c = let (shared, set, first) = c.in_ok-between.ensures in symbols-are c.args.items.now shared set _ _ _ c.earlier.ensures c.in_ok-within.ensures first
