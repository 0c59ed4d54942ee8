use Rattle.std.proofs.Common.{◌≡◌, ◌++◌, take}
use Rattle.chain_expand.specs.Comps.{front_comps}
use Rattle.chain_expand.proofs.comps.push_fronts.Given as goal

-- the chains so far
abbrev pub invariant-loop-i : goal.invariant-loop-i
invariant-loop-i l = l.comps.items ≡ l.initial.comps.items ++ front_comps l.rule.0 (take l.i l.walks) l.j
