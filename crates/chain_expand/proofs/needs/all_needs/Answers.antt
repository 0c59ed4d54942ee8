use Rattle.std.specs.List.{AllZip}
use Rattle.std.proofs.Common.{◌+◌, ℕ, Bool, List, take, get_or, refl, sym, subst}
use Rattle.lido_base.specs.declared.value.ValueType.TheVariants as type
use Rattle.lido_syntax.specs.declared.spec.Typed1.{Typed1}
use Rattle.lido_syntax.specs.Production.{name_of}
use Rattle.lido_symbols.specs.Numbers.{enumerated}
use Rattle.rule_tables.proofs.PlainLemmas.{zip-more}
use Rattle.chain_expand.specs.Needed.{IsNeedOf}
use Rattle.chain_expand.proofs.needs.all_needs.Goals as goal

pub loop-chain-preserved : goal.loop-chain-preserved
loop-chain-preserved c =
    let forced = c.args.forced.now in
    let chains = c.as_slice-chains.result.now in
    let i = c.loop-chain.chain-index in
    let none : Typed1 = record { name = record { at = 0; id = record { 0 = 0 } }; ty = type.Int } in
    let row = c.in_ok-needs_of.field-0 in
    let IsOne = λ (x : ℕ × Typed1) (r : List Bool). IsNeedOf forced (name_of x.1.name) r in
    subst (AllZip IsOne (enumerated 0 (take (i + 1) chains))) (sym c.in_ok-push.ensures.items)
    (zip-more IsOne chains i (get_or chains i none) none c.loop-chain.needs.items row c.loop-chain-test.true refl c.in_ok-needs_of.ensures c.loop-chain.invariant)
