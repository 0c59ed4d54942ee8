use Rattle.std.proofs.Common.{take}
use Rattle.leaf_types.specs.Tables.{type_of_name, OfSome, HasMore}
use Rattle.leaf_types.specs.Entries.{GivesChain}
use Rattle.leaf_types.proofs.names.NameTypes.of_chains.Given as goal

-- the chains so far
abbrev pub invariant-loop-chain : goal.invariant-loop-chain
invariant-loop-chain l = HasMore (OfSome GivesChain (take l.chain-index l.chains)) (type_of_name l.initial.types) (type_of_name l.types)
