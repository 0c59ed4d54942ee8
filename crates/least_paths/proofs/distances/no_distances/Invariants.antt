use Rattle.std.proofs.Common.{◌≡◌, None}
use Rattle.std.specs.Prelude.{replicate}
use Rattle.least_paths.proofs.distances.no_distances.Given as goal

-- so many vertices without a distance
abbrev pub invariant-loop : goal.invariant-loop
invariant-loop l = l.dist.items ≡ replicate l.counter None
