use Rattle.std.proofs.Common.{take}
use Rattle.leaf_types.specs.Tables.{type_of_name, OfSome, HasMore}
use Rattle.leaf_types.specs.Entries.{GivesTerminal}
use Rattle.leaf_types.proofs.names.NameTypes.of_terminals.Given as goal

-- the rows so far
abbrev pub invariant-loop-row : goal.invariant-loop-row
invariant-loop-row l = HasMore (OfSome GivesTerminal (take l.row-index l.rows)) (type_of_name l.initial.types) (type_of_name l.types)
