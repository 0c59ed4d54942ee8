use Rattle.kind_clashes.specs.Least.{IsFirst}
use Rattle.kind_clashes.proofs.LeastLemmas.{AmongFirst}
use Rattle.kind_clashes.specs.Symbols.{IsTerminalInList}
use Rattle.kind_clashes.proofs.symbols.terminal_in_lists.Given as goal

-- the least place so far
abbrev pub invariant-loop-rule : goal.invariant-loop-rule
invariant-loop-rule l = IsFirst (AmongFirst (IsTerminalInList l.sets) l.rules l.rule-index) l.least
