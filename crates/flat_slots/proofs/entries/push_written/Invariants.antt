use Rattle.std.proofs.Common.{◌≡◌, ◌++◌, take}
use Rattle.flat_slots.specs.Entries.{written_entries}
use Rattle.flat_slots.proofs.entries.push_written.Given as goal

-- the attributes so far
abbrev pub invariant-loop-attr : goal.invariant-loop-attr
invariant-loop-attr l = l.entries.items ≡ l.initial.entries.items ++ written_entries l.sym (take l.attr-index l.attrs)
