use Rattle.std.specs.Prelude.{Bool}
use Rattle.std.proofs.Common.{◌≡◌, ℕ, List, ap, sym, ◌∙◌}
use Rattle.least_paths.specs.Graph.{has_edge, is_in}
use Rattle.symbol_inherit.proofs.HeirLemmas.{row-test, reaches-by}
use Rattle.symbol_inherit.proofs.classes.heirs_of.Goals as goal

pub returns : goal.returns
returns c = λ x.
    let given : (z : ℕ) → is_in c.deref.result.now z ≡ has_edge c.args.graph.now z c.args.y =
    λ z. ap (λ (l : List Bool). is_in l z) (c.deref.ensures.value ∙ c.in_ok-sources.ensures) ∙ row-test c.args.y c.args.graph.now z in
    let e = c.in_ok-reaching.ensures.exactly x in
    (λ h. reaches-by _ _ _ given x (e.0 h), λ r. e.1 (reaches-by _ _ _ (λ z. sym (given z)) x r))
