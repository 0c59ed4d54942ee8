use Rattle.std.proofs.Common.{◌≡◌, ◌<◌, ℕ, length, take}
use Rattle.flat_slots.specs.Slots.{row_at, row_of}
use Rattle.flat_slots.proofs.table.rows_of.Given as goal

-- the attributes so far
abbrev pub invariant-loop-entry : goal.invariant-loop-entry
invariant-loop-entry l = record {
  count : length l.rows.items ≡ l.count;
  rows : (x : ℕ) → x < l.count → row_at l.rows.items x ≡ row_of x (take l.entry-index l.entries);
}
