use Rattle.std.proofs.Common.{◌≡◌, ◌≤◌, map, length}
use Rattle.std.specs.Prelude.{vec_len, vec_capacity}
use Rattle.std.specs.List.{range_with_len}
use Rattle.core_machine.specs.Cursors.{level}
use Rattle.core_machine.proofs.CursorReads.{most_of}
use Rattle.core_machine.proofs.cursor.levels_of.Given as goal

-- the levels so far, and the greatest of those of the region
abbrev pub invariant-loop-node : goal.invariant-loop-node
invariant-loop-node l = record {
  count : l.count ≡ length l.job.flat;
  room : l.count ≤ vec_capacity l.before;
  len : vec_len l.before ≡ l.node;
  before : l.before.items ≡ map (level l.job) (range_with_len 0 l.node);
  most : l.most ≡ most_of l.job l.region l.node;
}
