use Rattle.kind_clashes.specs.Least.{IsFirst}
use Rattle.kind_clashes.proofs.LeastLemmas.{AmongFirst}
use Rattle.kind_clashes.specs.Symbols.{IsTerminalElement}
use Rattle.kind_clashes.proofs.symbols.terminal_among.Given as goal

-- the least place so far
abbrev pub invariant-loop-element : goal.invariant-loop-element
invariant-loop-element l = IsFirst (AmongFirst (IsTerminalElement l.sets) l.elements l.element-index) l.least
