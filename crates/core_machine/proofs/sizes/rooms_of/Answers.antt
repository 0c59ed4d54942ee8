use Rattle.std.proofs.Common.{◌≡◌, ◌∙◌, ◌++◌, ◌∷◌, [], suc, map, ap, sym, arith, length}
use Rattle.std.specs.List.{range_with_len}
use Rattle.std.proofs.lemmas.List.FromFn.{map-range_with_len_more}
use Rattle.string_librarian.specs.Rooms.{RoomState}
use Rattle.core_machine.specs.Runs.{empty_room}
use Rattle.core_machine.proofs.sizes.rooms_of.Goals as goal

pub loop-number-preserved : goal.loop-number-preserved
loop-number-preserved c =
    let room : c.in_ok-with_space.field-0 ≡ empty_room c.args.whole.now c.loop-number.number =
    c.in_ok-with_space.ensures ∙ ap (λ s. record { number = c.loop-number.number; deposits = []; space = s }) c.cells_of_region-space.ensures in
    record {
      count = c.loop-number.invariant.count;
      room = omega (arith, c.loop-number.invariant.room, c.push_reserved.ensures.capacity);
      len = omega (arith, c.push_reserved.ensures.len, c.loop-number.invariant.len);
      rooms = c.push_reserved.ensures.items ∙ ap (λ l. l ++ c.in_ok-with_space.field-0 ∷ []) c.loop-number.invariant.rooms
          ∙ ap (λ (x : RoomState). map (empty_room c.args.whole.now) (range_with_len 0 c.loop-number.number) ++ x ∷ []) room
          ∙ sym (map-range_with_len_more (empty_room c.args.whole.now) 0 c.loop-number.number c.loop-number.number (omega arith));
    }

pub returns : goal.returns
returns c =
    let n : c.loop-number.number ≡ suc (length c.args.whole.now.nodes) = omega (arith, c.loop-number.invariant.count, c.loop-number-test.false, c.loop-number.auto.number-end) in
    c.loop-number.invariant.rooms ∙ ap (λ m. map (empty_room c.args.whole.now) (range_with_len 0 m)) n
