use Rattle.std.proofs.Common.{◌≡◌, ℕ, ◌<◌, Some}
use Rattle.std.specs.Prelude.{slice_get}
use Rattle.partitions.specs.Search.{IsClosed}
use Rattle.partitions.proofs.search.next_open.Given as goal

-- the predecessors so far are closed
abbrev pub invariant-loop-place : goal.invariant-loop-place
invariant-loop-place l = (j u : ℕ) → j < l.place → slice_get l.row j ≡ Some u → IsClosed l.marks u
