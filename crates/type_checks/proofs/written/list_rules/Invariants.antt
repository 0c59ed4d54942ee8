use Rattle.std.proofs.Common.{◌≡◌, take}
use Rattle.type_checks.specs.Written.{list_numbers}
use Rattle.type_checks.proofs.written.list_rules.Given as goal

-- the lists so far
abbrev pub invariant-loop-k : goal.invariant-loop-k
invariant-loop-k l = l.numbers.items ≡ list_numbers (take l.k l.rules)
