use Rattle.std.proofs.Common.{arith, subst, Some, get_or}
use Rattle.std.proofs.lemmas.Option.{slice_get-get_or}
use Rattle.lido_base.specs.declared.value.ValueType.TheVariants as type
use Rattle.lido_syntax.specs.declared.spec.Typed1.{Typed1}
use Rattle.computation_aims.specs.Aims.{goal_of}
use Rattle.computation_aims.specs.declared.aims.Way.{Way}
use Rattle.symbol_inherit.specs.Entries.{chain_way}
use Rattle.symbol_inherit.specs.Clashes.{AreTwoLeft, IsClashFor}
use Rattle.symbol_inherit.proofs.ClashLemmas.{none-more, chains-none, chain-found}
use Rattle.symbol_inherit.proofs.clashes.chain_clash.Goals as goal

abbrev some-chain : Typed1
some-chain = record { name = record { at = 0; id = record { 0 = 0 } }; ty = type.Int }

pub loop-chain-preserved : goal.loop-chain-preserved
loop-chain-preserved c = λ env t T s known at.
    let here : Typed1 = get_or c.args.chains.now c.loop-chain.chain-index some-chain in
    none-more (λ (d : Typed1). AreTwoLeft t.spec T s (goal_of (record { way = chain_way c.args.is_behind; name = d.name.id }))) c.args.chains.now c.loop-chain.chain-index some-chain
    (c.loop-chain.invariant env t T s known at)
    (subst (λ (w : Way). ¬ AreTwoLeft t.spec T s (goal_of (record { way = w; name = here.name.id }))) c.chain_way-way.ensures
    (subst (λ o. IsClashFor t.spec T s (record { way = c.chain_way-way.result; name = here.name.id }) o) c.in_default.is (c.clash_of.ensures env t T s known at)))

pub returns-in-Some : goal.returns-in-Some
returns-in-Some c = λ env t T s known at nonterminal of none.
    let here : Typed1 = get_or c.args.chains.now c.loop-chain.chain-index some-chain in
    chain-found env t c.args.symbols.now known T c.args.x s at nonterminal c.args.is_behind c.args.chains.now of none c.loop-chain.chain-index here
    (slice_get-get_or c.args.chains.now c.loop-chain.chain-index some-chain c.loop-chain-test.true) (c.loop-chain.invariant env t T s known at) c.in-Some.clash
    (subst (λ (w : Way). IsClashFor t.spec T s (record { way = w; name = here.name.id }) (Some c.in-Some.clash)) c.chain_way-way.ensures (c.in-Some.ensures env t T s known at))

pub returns : goal.returns
returns c = λ env t T s known at nonterminal of none.
    chains-none env t c.args.symbols.now known T c.args.x s at nonterminal c.args.is_behind c.args.chains.now of none
    (λ j d l e. c.loop-chain.invariant env t T s known at j d (let f = c.loop-chain-test.false in omega arith) e)
