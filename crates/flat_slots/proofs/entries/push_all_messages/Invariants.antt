use Rattle.std.proofs.Common.{◌≡◌, ◌++◌, take}
use Rattle.flat_slots.specs.Entries.{all_messages}
use Rattle.flat_slots.proofs.entries.push_all_messages.Given as goal

-- the symbols so far
abbrev pub invariant-loop-x : goal.invariant-loop-x
invariant-loop-x l = l.entries.items ≡ l.initial.entries.items ++ all_messages l.counts (take l.x l.rows)
