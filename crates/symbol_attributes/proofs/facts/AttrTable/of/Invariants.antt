use Rattle.std.proofs.Common.{take}
use Rattle.symbol_attributes.specs.Facts.{IsAttrTableOf}
use Rattle.symbol_attributes.proofs.facts.AttrTable.of.Given as goal

abbrev pub invariant-loop-decl : goal.invariant-loop-decl
invariant-loop-decl l = IsAttrTableOf (take l.decl-index l.decls) l.table
