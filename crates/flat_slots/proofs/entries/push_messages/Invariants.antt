use Rattle.std.proofs.Common.{◌≡◌, ◌++◌}
use Rattle.flat_slots.specs.Entries.{messages}
use Rattle.flat_slots.proofs.entries.push_messages.Given as goal

-- the messages so far
abbrev pub invariant-loop-j : goal.invariant-loop-j
invariant-loop-j l = l.entries.items ≡ l.initial.entries.items ++ messages l.sym l.j
