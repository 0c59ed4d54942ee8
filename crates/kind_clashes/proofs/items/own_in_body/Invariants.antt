use Rattle.kind_clashes.specs.Least.{IsFirst}
use Rattle.kind_clashes.specs.Items.{IsOwnIn}
use Rattle.kind_clashes.proofs.LeastLemmas.{AmongFirst}
use Rattle.kind_clashes.proofs.items.own_in_body.Given as goal

-- the least place so far
abbrev pub invariant-loop-comp : goal.invariant-loop-comp
invariant-loop-comp l = IsFirst (AmongFirst (IsOwnIn l.sets) l.body l.comp-index) l.least
