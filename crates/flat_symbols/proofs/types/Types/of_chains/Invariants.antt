use Rattle.std.proofs.Common.{take, map}
use Rattle.flat_symbols.specs.Types.{chain_type, AreTypesOf}
use Rattle.flat_symbols.proofs.types.Types.of_chains.Given as goal

-- the chains so far
abbrev pub invariant-loop-chain : goal.invariant-loop-chain
invariant-loop-chain l = AreTypesOf (map chain_type (take l.chain-index l.chains)) l.types
