use Rattle.kind_clashes.specs.Least.{IsFirst}
use Rattle.kind_clashes.specs.Items.{IsTerminalOfItem}
use Rattle.kind_clashes.proofs.LeastLemmas.{AmongFirst}
use Rattle.kind_clashes.proofs.items.terminal_of_items.Given as goal

-- the least place so far
abbrev pub invariant-loop-item : goal.invariant-loop-item
invariant-loop-item l = IsFirst (AmongFirst (IsTerminalOfItem l.sets l.bearers) l.items l.item-index) l.least
