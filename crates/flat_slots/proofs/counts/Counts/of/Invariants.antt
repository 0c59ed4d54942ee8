use Rattle.std.proofs.Common.{◌≡◌, ℕ, take}
use Rattle.flat_slots.specs.Entries.{count_in, most_of}
use Rattle.flat_slots.proofs.counts.Counts.of.Given as goal

-- the rules so far
abbrev pub invariant-loop-rule : goal.invariant-loop-rule
invariant-loop-rule l = (s : ℕ) → count_in l.counts s ≡ most_of s (take l.rule-index l.rules)
