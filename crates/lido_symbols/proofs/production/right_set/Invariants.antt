use Rattle.std.proofs.Common.{◌≡◌, ℕ, nat_eq, take}
use Rattle.std.specs.HashSet as bag
use Rattle.std.specs.List.{list_any}
use Rattle.lido_symbols.specs.Occurrences.{names_symbol}
use Rattle.lido_symbols.proofs.production.right_set.Given as goal

-- the symbols so far
abbrev pub invariant-loop-element : goal.invariant-loop-element
invariant-loop-element l = (x : ℕ) → bag.contains nat_eq l.symbols x ≡ list_any (names_symbol x) (take l.element-index l.element-items)
