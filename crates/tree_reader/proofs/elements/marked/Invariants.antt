use Rattle.std.proofs.Common.{take}
use Rattle.tree_reader.specs.Elements.{AreMarked}
use Rattle.tree_reader.proofs.elements.marked.Given as goal

-- the first elements are marked
abbrev pub invariant-loop-element : goal.invariant-loop-element
invariant-loop-element l = AreMarked (take l.element-index l.elements) l.row.items
