use Rattle.std.proofs.Common.{take}
use Rattle.chain_expand.specs.Walks.{AreWalks}
use Rattle.chain_expand.proofs.walks.rule_walks.Given as goal

-- the chains so far
abbrev pub invariant-loop-i : goal.invariant-loop-i
invariant-loop-i l = AreWalks l.rows (take l.i l.needs) l.rule l.forces l.walks.items
