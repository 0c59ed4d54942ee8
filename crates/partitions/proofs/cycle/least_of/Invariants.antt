use Rattle.std.proofs.Common.{ℕ, ◌<◌, ◌≤◌, length}
use Rattle.std.specs.Prelude.{slice_index}
use Rattle.partitions.proofs.cycle.least_of.Given as goal

-- the least so far
abbrev pub invariant-loop-i : goal.invariant-loop-i
invariant-loop-i l = record {
  behind : l.fn.from ≤ l.least;
  inside : l.least < length l.path;
  least : (j : ℕ) → l.fn.from ≤ j → j < l.i → slice_index l.path l.least ≤ slice_index l.path j;
}
