use Rattle.std.proofs.Common.{◌≡◌, length}
use Rattle.large_grammars.specs.Sizes.{EachAt, IsShapeAt}
use Rattle.large_grammars.proofs.grammars.shapes.Given as goal

-- the shapes so far
abbrev pub invariant-loop-j : goal.invariant-loop-j
invariant-loop-j l = record { all : length l.list ≡ l.j; each : EachAt (IsShapeAt l.fn.size) l.list }
