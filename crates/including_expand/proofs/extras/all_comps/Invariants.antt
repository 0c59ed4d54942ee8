use Rattle.std.proofs.Common.{◌≡◌, take}
use Rattle.including_expand.specs.Extras.{all_comps}
use Rattle.including_expand.proofs.extras.all_comps.Given as goal

-- the rules so far
abbrev pub invariant-loop-k : goal.invariant-loop-k
invariant-loop-k l = l.comps.items ≡ all_comps l.needs l.sets (take l.k l.plain)
