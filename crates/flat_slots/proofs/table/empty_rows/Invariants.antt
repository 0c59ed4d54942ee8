use Rattle.std.proofs.Common.{◌≡◌, ℕ, [], length}
use Rattle.flat_slots.specs.Slots.{row_at}
use Rattle.flat_slots.proofs.table.empty_rows.Given as goal

-- so many rows, all empty
abbrev pub invariant-loop : goal.invariant-loop
invariant-loop l = record {
  count : length l.rows.items ≡ l.counter;
  empty : (x : ℕ) → row_at l.rows.items x ≡ [];
}
