use Rattle.std.proofs.Common.{◌≡◌, ◌<◌, ◌+◌, ℕ}
use Rattle.std.specs.Prelude.{Contains, ◌↔◌}
use Rattle.partitions.specs.RuleGraph.{IsComing}
use Rattle.partitions.proofs.edges.coming.Given as goal

-- the numbers so far
abbrev pub invariant-loop-a : goal.invariant-loop-a
invariant-loop-a l = (u : ℕ) → Contains l.row.items u ↔ ((a : ℕ) × (a < l.a) × (u ≡ l.start + a) × IsComing l.ids l.later a l.b)
