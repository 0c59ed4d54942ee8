use Rattle.kind_clashes.specs.Least.{IsFirst}
use Rattle.kind_clashes.proofs.LeastLemmas.{AmongFirst}
use Rattle.kind_clashes.specs.Comps.{IsTerminalName}
use Rattle.kind_clashes.proofs.comps.least_terminal_name.Given as goal

-- the least place so far
abbrev pub invariant-loop-name : goal.invariant-loop-name
invariant-loop-name l = IsFirst (AmongFirst (IsTerminalName l.sets) l.names l.name-index) l.least
