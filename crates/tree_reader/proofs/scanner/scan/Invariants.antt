use Rattle.std.proofs.Common.{take}
use Rattle.tree_reader.specs.Scanning.{HasScanned, IsShallow}
use Rattle.tree_reader.proofs.scanner.scan.Given as goal

abbrev pub invariant-loop-i : goal.invariant-loop-i
invariant-loop-i l = record { scanned : HasScanned (take l.i l.text) l.scanner; shallow : IsShallow l.i l.scanner.depth }
