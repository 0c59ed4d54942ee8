use Rattle.std.proofs.Common.{ℕ, ◌<◌, ◌≤◌, length}
use Rattle.flat_slots.specs.Slots.{row_at}
use Rattle.flat_symbols.proofs.limits.are_few.Given as goal

-- the symbols so far
abbrev pub invariant-loop-row : goal.invariant-loop-row
invariant-loop-row l = (x : ℕ) → x < l.row-index → length (row_at l.table.rows x) ≤ 256
