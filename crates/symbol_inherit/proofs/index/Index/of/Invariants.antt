use Rattle.std.proofs.Common.{take}
use Rattle.symbol_inherit.specs.Index.{Holds}
use Rattle.symbol_inherit.proofs.index.Index.of.Given as goal

abbrev pub invariant-loop-note : goal.invariant-loop-note
invariant-loop-note l = Holds (take l.note-index l.notes) l.index
