use Rattle.kind_clashes.specs.Least.{IsFirst}
use Rattle.kind_clashes.proofs.LeastLemmas.{AmongFirst}
use Rattle.kind_clashes.specs.Comps.{IsBodyClash}
use Rattle.kind_clashes.proofs.bodies.clash_in_body.Given as goal

-- the least place so far
abbrev pub invariant-loop-comp : goal.invariant-loop-comp
invariant-loop-comp l = IsFirst (AmongFirst (IsBodyClash l.sets) l.body l.comp-index) l.least
