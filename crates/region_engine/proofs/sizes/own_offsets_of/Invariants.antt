use Rattle.std.proofs.Common.{◌≡◌, ◌≤◌, ◌+◌, map, length}
use Rattle.std.specs.Prelude.{vec_len, vec_capacity}
use Rattle.std.specs.List.{range_with_len}
use Rattle.region_engine.specs.Kept.{own_offset}
use Rattle.region_engine.proofs.sizes.own_offsets_of.Given as goal

-- the offsets so far, and the next one
abbrev pub invariant-loop-node : goal.invariant-loop-node
invariant-loop-node l = record {
  count : l.count ≡ length l.job.flat;
  room : l.count + 1 ≤ vec_capacity l.list;
  len : vec_len l.list ≡ l.node;
  list : l.list.items ≡ map (own_offset l.job l.number) (range_with_len 0 l.node);
  next : l.next ≡ own_offset l.job l.number l.node;
}
