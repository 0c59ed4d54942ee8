use Rattle.std.proofs.Common.{take}
use Rattle.tree_reader.specs.Asking.{IsNameTable}
use Rattle.tree_reader.proofs.names.name_table.Given as goal

abbrev pub invariant-loop-k : goal.invariant-loop-k
invariant-loop-k l = IsNameTable l.flat.rules (take l.k l.flat.shapes) l.count l.names.items
