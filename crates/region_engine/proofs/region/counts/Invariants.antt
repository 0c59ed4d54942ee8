use Rattle.std.proofs.Common.{◌≡◌, ◌≤◌, length, drop}
use Rattle.core_machine.specs.Cursors.{left, IsCursor}
use Rattle.region_engine.specs.Behind.{keys_at, list}
use Rattle.region_engine.proofs.region.counts.Given as goal

-- what was counted, and what is left
abbrev pub invariant-loop-item : goal.invariant-loop-item
invariant-loop-item l = record {
  cursor : IsCursor l.job l.cursor;
  rest : left l.job l.cursor ≡ drop l.items (list l.job l.number);
  within : l.items ≤ length (list l.job l.number);
  puts : l.puts ≡ length (keys_at l.job l.number l.items);
  few : l.puts ≤ l.items;
}

abbrev pub decreases-loop-item : goal.decreases-loop-item
decreases-loop-item l = length (left l.job l.cursor)
