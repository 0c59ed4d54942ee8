use Rattle.std.proofs.Common.{◌≡◌, ◌+◌, ◌*◌}
use Rattle.string_librarian.specs.Rooms.{cells_of}
use Rattle.trials_of_texts.specs.Held.{IsHeld}
use Rattle.trials_of_texts.proofs.chains.chain.Given as goal

abbrev pub invariant-loop : goal.invariant-loop
invariant-loop l = record {
  held : IsHeld l.texts l.room l.text;
  len : l.text.len ≡ 1 + 2 * l.counter;
  space : l.room.space + 5 * l.counter ≡ 5 * l.count;
  cells : cells_of l.room.deposits ≡ 2 + 5 * l.counter;
}
