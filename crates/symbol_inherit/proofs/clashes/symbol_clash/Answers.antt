use Rattle.std.proofs.Common.{subst}
use Rattle.symbol_inherit.specs.Clashes.{IsClashOf}
use Rattle.symbol_inherit.proofs.clashes.symbol_clash.Goals as goal

pub returns-in-Some : goal.returns-in-Some
returns-in-Some c = λ env t T s known numbers at nonterminal of chains. c.in-Some.ensures env t T s known numbers at nonterminal of

pub returns-in-Some-chain_clash : goal.returns-in-Some-chain_clash
returns-in-Some-chain_clash c = λ env t T s known numbers at nonterminal of chains.
    let one = subst (λ o. IsClashOf t.spec T s 0 o) c.in_default.is (c.attribute_clash.ensures env t T s known numbers at nonterminal of) in
    c.in-Some-chain_clash.ensures env t T s known at nonterminal chains one

pub returns : goal.returns
returns c = λ env t T s known numbers at nonterminal of chains.
    let one = subst (λ o. IsClashOf t.spec T s 0 o) c.in_default.is (c.attribute_clash.ensures env t T s known numbers at nonterminal of) in
    let two = subst (λ o. IsClashOf t.spec T s 1 o) c.in_default-chain_clash.is (c.chain_clash.ensures env t T s known at nonterminal chains one) in
    c.chain_clash-2.ensures env t T s known at nonterminal chains two
