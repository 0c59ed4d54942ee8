use Rattle.kind_clashes.specs.Least.{IsFirst}
use Rattle.kind_clashes.proofs.LeastLemmas.{AmongFirst}
use Rattle.symbol_attributes.specs.Inheritance.{number}
use Rattle.clash_pairs.specs.Twofold.{IsTwofoldOn}
use Rattle.clash_pairs.proofs.pairs.Facts.twofold_on_any.Given as goal

-- the least place so far
abbrev pub invariant-loop-symbol : goal.invariant-loop-symbol
invariant-loop-symbol l = IsFirst (AmongFirst (λ s. IsTwofoldOn l.inheritance l.self (number l.numbers s)) l.symbol-items l.symbol-index) l.least
