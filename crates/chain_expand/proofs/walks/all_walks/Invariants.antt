use Rattle.std.proofs.Common.{take}
use Rattle.chain_expand.specs.Walks.{AreAllWalks}
use Rattle.chain_expand.proofs.walks.all_walks.Given as goal

-- the rules so far
abbrev pub invariant-loop-k : goal.invariant-loop-k
invariant-loop-k l = AreAllWalks l.rows l.needs (take l.k l.plain) l.comps l.all.items
