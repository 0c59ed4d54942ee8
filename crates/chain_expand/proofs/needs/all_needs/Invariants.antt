use Rattle.std.proofs.Common.{take}
use Rattle.chain_expand.specs.Needed.{AreNeedsOf}
use Rattle.chain_expand.proofs.needs.all_needs.Given as goal

-- the chains so far
abbrev pub invariant-loop-chain : goal.invariant-loop-chain
invariant-loop-chain l = AreNeedsOf l.forced (take l.chain-index l.chains) l.needs.items
