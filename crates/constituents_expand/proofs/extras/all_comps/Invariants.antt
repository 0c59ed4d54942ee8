use Rattle.std.proofs.Common.{◌≡◌, take}
use Rattle.constituents_expand.specs.Extras.{all_comps}
use Rattle.constituents_expand.proofs.extras.all_comps.Given as goal

-- the rules so far
abbrev pub invariant-loop-k : goal.invariant-loop-k
invariant-loop-k l = l.comps.items ≡ all_comps l.gatherings l.rules (take l.k l.plain)
