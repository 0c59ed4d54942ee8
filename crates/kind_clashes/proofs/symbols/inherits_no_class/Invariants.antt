use Rattle.kind_clashes.specs.Least.{IsFirst}
use Rattle.kind_clashes.proofs.LeastLemmas.{AmongFirst}
use Rattle.kind_clashes.specs.Symbols.{InheritsNoClass}
use Rattle.kind_clashes.proofs.symbols.inherits_no_class.Given as goal

-- the least place so far
abbrev pub invariant-loop-item : goal.invariant-loop-item
invariant-loop-item l = IsFirst (AmongFirst (InheritsNoClass l.sets) l.items l.item-index) l.least
