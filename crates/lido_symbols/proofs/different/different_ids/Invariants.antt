use Rattle.std.proofs.Common.{◌≡◌, take}
use Rattle.lido_symbols.specs.Numbers.{different}
use Rattle.lido_symbols.specs.Occurrences.{numbers}
use Rattle.lido_symbols.proofs.different.different_ids.Given as goal

-- the different names so far
abbrev pub invariant-loop-id : goal.invariant-loop-id
invariant-loop-id l = l.names ≡ different (numbers (take l.id-index l.ids))
