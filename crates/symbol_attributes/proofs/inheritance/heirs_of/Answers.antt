use Rattle.std.specs.Prelude.{Bool}
use Rattle.std.proofs.Common.{◌≡◌, ℕ, List, ap, sym, ◌∙◌}
use Rattle.least_paths.specs.Graph.{has_edge, is_in}
use Rattle.symbol_attributes.proofs.RowsLemmas.{named-test, reaches-alike}
use Rattle.symbol_attributes.proofs.inheritance.heirs_of.Goals as goal

pub returns : goal.returns
returns c = λ x.
    let given : (z : ℕ) → is_in c.deref.result.now z ≡ has_edge c.args.graph.now z c.args.y =
    λ z. ap (λ (l : List Bool). is_in l z) (c.deref.ensures.value ∙ c.in_ok-sources.ensures) ∙ named-test c.args.y c.args.graph.now z in
    let both = c.in_ok-reaching.ensures.exactly x in
    (λ h. reaches-alike _ _ _ given x (both.0 h), λ r. both.1 (reaches-alike _ _ _ (λ z. sym (given z)) x r))
