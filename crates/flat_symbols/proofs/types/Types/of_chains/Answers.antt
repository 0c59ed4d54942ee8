use Rattle.std.proofs.Common.{refl}
use Rattle.flat_symbols.specs.Types.{chain_type}
use Rattle.flat_symbols.proofs.TypeLemmas.{no-types, types-mapped}
use Rattle.flat_symbols.proofs.types.Types.of_chains.Goals as goal

pub loop-chain-init : goal.loop-chain-init
loop-chain-init c = no-types _ c.new-types.ensures

pub loop-chain-preserved : goal.loop-chain-preserved
loop-chain-preserved c =
    types-mapped chain_type c.args.chains.now c.loop-chain.chain-index _ _ c.loop-chain-test.true refl c.loop-chain.types c.set.new.self
    c.in_ok-set.ensures c.loop-chain.invariant
