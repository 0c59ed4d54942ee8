use Rattle.std.proofs.Common.{arith, ap}
use Rattle.string_librarian.specs.Rooms.{RoomState}
use Rattle.region_engine.proofs.region.empty_bench.Goals as goal

pub returns : goal.returns
returns c = record {
  number = ap (λ (s : RoomState). s.number) c.in_ok-room.ensures;
  deposits = ap (λ (s : RoomState). s.deposits) c.in_ok-room.ensures;
  space = let e = ap (λ (s : RoomState). s.space) c.in_ok-room.ensures in omega (arith, e, c.in_ok-space.ensures);
  empty = c.in_ok-stack.ensures.len;
  stack = λ q k m n. let a = c.in_ok-stack_room.ensures q k m n in let b = c.in_ok-stack.ensures.capacity in omega (arith, a, b);
}
