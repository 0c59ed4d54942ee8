use Rattle.std.proofs.Common.{◌≡◌, take}
use Rattle.chain_expand.specs.Comps.{all_comps}
use Rattle.chain_expand.proofs.comps.all_comps.Given as goal

-- the rules so far
abbrev pub invariant-loop-k : goal.invariant-loop-k
invariant-loop-k l = l.comps.items ≡ all_comps l.walks (take l.k l.plain)
