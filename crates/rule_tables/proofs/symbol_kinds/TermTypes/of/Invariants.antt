use Rattle.std.proofs.Common.{take}
use Rattle.rule_tables.specs.SymbolKinds.{AreTermTypes}
use Rattle.rule_tables.proofs.symbol_kinds.TermTypes.of.Given as goal

abbrev pub invariant-loop-term : goal.invariant-loop-term
invariant-loop-term l = AreTermTypes (take l.term-index l.terms) l.types
