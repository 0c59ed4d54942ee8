use Rattle.std.proofs.Common.{ℕ, ◌<◌}
use Rattle.std.specs.Prelude.{Contains, IsTrue, ◌↔◌}
use Rattle.least_paths.specs.Graph.{is_in}
use Rattle.least_paths.proofs.distances.sources_of.Given as goal

-- the sources so far
abbrev pub invariant-loop-x : goal.invariant-loop-x
invariant-loop-x l = (y : ℕ) → Contains l.front.items y ↔ ((y < l.x) × IsTrue (is_in l.sources y))
