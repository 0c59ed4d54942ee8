use Rattle.partitions.proofs.SymbolsLemmas.{ArePartsBelow}
use Rattle.partitions.proofs.symbols.partition_symbols.Given as goal

-- the visits and the rows of the symbols so far
abbrev pub invariant-loop-x : goal.invariant-loop-x
invariant-loop-x l = ArePartsBelow l.flat.symbols l.flat.rules l.x l.visits.items l.later.items
