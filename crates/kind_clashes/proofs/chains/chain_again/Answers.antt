use Rattle.std.proofs.Common.{List, ap, map, subst, ◌∙◌}
use Rattle.lido_syntax.specs.declared.spec.Name.{Name}
use Rattle.lido_syntax.specs.declared.spec.Typed1.{Typed1}
use Rattle.kind_clashes.specs.Firsts.{AreFirsts}
use Rattle.kind_clashes.specs.Least.{IsFirst}
use Rattle.kind_clashes.proofs.ChainsLemmas.{Named, Behind, chain-again}
use Rattle.kind_clashes.proofs.chains.chain_again.Goals as goal

pub returns : goal.returns
returns c =
    let chains = c.in_ok-of_chains.of_chains in
    let declared = c.in_ok-of_declared.of_declared in
    chain-again c.args.spec.now c.in_ok-chains.chains.items c.in_ok-declared.declared.items chains declared _ _ _ _ _
    (c.in_ok-chains.ensures ∙ ap (map (λ (x : Typed1). x.name)) c.as_slice.ensures) c.in_ok-declared.ensures
    (subst (λ (xs : List Name). AreFirsts (Named xs) chains) c.deref.ensures.value c.in_ok-of_chains.ensures)
    (subst (λ (xs : List Name). AreFirsts (Named xs) declared) c.deref-2.ensures.value c.in_ok-of_declared.ensures)
    c.earlier-behind_chains.ensures c.earlier.ensures
    (subst (λ (xs : List Name). IsFirst (Behind chains xs) c.least_behind.result) c.deref-3.ensures.value c.least_behind.ensures)
    (subst (λ (xs : List Name). IsFirst (Behind chains xs) c.least_behind-2.result) c.deref-4.ensures.value c.least_behind-2.ensures)
    (subst (λ (xs : List Name). IsFirst (Behind declared xs) c.least_behind-3.result) c.deref-5.ensures.value c.least_behind-3.ensures)
