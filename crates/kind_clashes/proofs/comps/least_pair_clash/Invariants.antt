use Rattle.kind_clashes.specs.Least.{IsFirst}
use Rattle.kind_clashes.proofs.LeastLemmas.{AmongFirst}
use Rattle.kind_clashes.specs.Comps.{IsPairClash}
use Rattle.kind_clashes.proofs.comps.least_pair_clash.Given as goal

-- the least place so far
abbrev pub invariant-loop-pair : goal.invariant-loop-pair
invariant-loop-pair l = IsFirst (AmongFirst (IsPairClash l.sets) l.pairs l.pair-index) l.least
