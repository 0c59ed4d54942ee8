use Rattle.std.specs.Prelude.{Contains}
use Rattle.std.proofs.Common.{ℕ, List, ◌≡◌, subst, ◌∙◌}
use Rattle.std.proofs.lemmas.Result.{IfOk-weaker}
use Rattle.flat_terms.specs.Scene.{gives}
use Rattle.flat_terms.proofs.FoldLemmas.{givers-are, gives-fit, joined-constituents}
use Rattle.flat_terms.proofs.folds.below.Goals as goal

pub returns-in_ok-places-in-Some : goal.returns-in_ok-places-in-Some
returns-in_ok-places-in-Some c =
    let site = c.args.site.now in
    let cons = c.args.cons.now in
    let items = c.in_ok-places-in-Some.places.items in
    IfOk-weaker c.below_by.result _ _ (λ made h scene is gathered tail holder context.
    let same : items ≡ gives scene cons = c.in_ok-places-in-Some.ensures scene.plain is.right ∙ givers-are scene site is cons gathered in
    h scene is (gathered.with c.in-Some.with c.in-Some.is) gathered.number (λ j m. gives-fit scene site is cons j (subst (λ (l : List ℕ). Contains l j) same m))
    ∙ joined-constituents scene site is cons tail holder context c.in-Some.with items c.in-Some.is same) c.below_by.ensures
