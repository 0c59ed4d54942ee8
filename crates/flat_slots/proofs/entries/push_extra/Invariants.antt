use Rattle.std.proofs.Common.{◌≡◌, ◌++◌, take}
use Rattle.flat_slots.specs.Entries.{all_extra}
use Rattle.flat_slots.proofs.entries.push_extra.Given as goal

-- the attributes so far
abbrev pub invariant-loop-attr : goal.invariant-loop-attr
invariant-loop-attr l = l.entries.items ≡ l.initial.entries.items ++ all_extra l.chains (take l.attr-index l.attrs)
