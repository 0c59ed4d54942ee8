use Rattle.kind_clashes.specs.Names.{HasMore}
use Rattle.kind_clashes.proofs.LeastLemmas.{AmongFirst}
use Rattle.symbol_attributes.specs.Owned.{IsPassed}
use Rattle.symbol_attributes.proofs.owned.add_passed.Given as goal

-- the attributes so far were added
abbrev pub invariant-loop-one : goal.invariant-loop-one
invariant-loop-one l = HasMore (AmongFirst (IsPassed l.inheritance l.numbers l.symbol.0) l.named l.one-index) l.initial.set l.set
