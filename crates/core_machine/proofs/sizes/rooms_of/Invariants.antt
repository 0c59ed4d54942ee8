use Rattle.std.proofs.Common.{◌≡◌, ◌≤◌, map, length, suc}
use Rattle.std.specs.Prelude.{vec_len, vec_capacity}
use Rattle.std.specs.List.{range_with_len}
use Rattle.core_machine.specs.Runs.{empty_room}
use Rattle.core_machine.proofs.sizes.rooms_of.Given as goal

-- the rooms so far
abbrev pub invariant-loop-number : goal.invariant-loop-number
invariant-loop-number l = record {
  count : l.count ≡ suc (length l.whole.nodes);
  room : l.count ≤ vec_capacity l.rooms;
  len : vec_len l.rooms ≡ l.number;
  rooms : l.rooms.items ≡ map (empty_room l.whole) (range_with_len 0 l.number);
}
