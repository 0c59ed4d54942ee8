use Rattle.kind_clashes.specs.Least.{IsFirst}
use Rattle.kind_clashes.proofs.LeastLemmas.{AmongFirst}
use Rattle.kind_clashes.specs.Symbols.{IsElementIn}
use Rattle.kind_clashes.proofs.symbols.least_element_in.Given as goal

-- the least place so far
abbrev pub invariant-loop-element : goal.invariant-loop-element
invariant-loop-element l = IsFirst (AmongFirst (IsElementIn l.names) l.elements l.element-index) l.least
