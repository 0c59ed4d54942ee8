use Rattle.std.proofs.Common.{take}
use Rattle.symbol_attributes.specs.Facts.{IsTableOf, AreRowsOf}
use Rattle.symbol_attributes.proofs.rows.SaidTables.of.Given as goal

abbrev pub invariant-loop-said : goal.invariant-loop-said
invariant-loop-said l = record {
  facts : IsTableOf (take l.said-index l.list) l.facts;
  rows : AreRowsOf (take l.said-index l.list) l.rows;
}
