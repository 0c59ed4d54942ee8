use Rattle.std.proofs.lemmas.Option.{slice_get-get_or}
use Rattle.leaf_types.specs.Tables.{type_of_name, OfSome}
use Rattle.leaf_types.specs.Entries.{GivesChain}
use Rattle.leaf_types.proofs.MoreLemmas.{more-begin, more-next, more-all, table-of, name-set}
use Rattle.leaf_types.proofs.names.NameTypes.of_chains.Goals as goal

pub loop-chain-init : goal.loop-chain-init
loop-chain-init c = more-begin GivesChain c.args.chains.now (type_of_name c.new-types.result)

pub loop-chain-preserved : goal.loop-chain-preserved
loop-chain-preserved c =
    more-next GivesChain c.args.chains.now c.loop-chain.chain-index _ (type_of_name c.new-types.result) (type_of_name c.loop-chain.types) (type_of_name c.set.new.self)
    (slice_get-get_or _ _ _ c.loop-chain-test.true) c.loop-chain.invariant (name-set _ _ (type_of_name c.loop-chain.types) (type_of_name c.set.new.self) c.in_ok-set.ensures)

pub returns : goal.returns
returns c =
    table-of (OfSome GivesChain c.args.chains.now) (type_of_name c.new-types.result) (type_of_name c.loop-chain.types) c.new-types.ensures
    (more-all GivesChain c.args.chains.now c.loop-chain.chain-index (type_of_name c.new-types.result) (type_of_name c.loop-chain.types) c.loop-chain-test.false c.loop-chain.invariant)
