use Rattle.std.specs.Prelude.{Contains}
use Rattle.std.proofs.Common.{ℕ, List, ◌≡◌, ◌++◌, map, refl, ap, subst, ◌∙◌}
use Rattle.std.proofs.lemmas.Result.{IfOk-weaker}
use Rattle.flat_grammar.specs.declared.flat.Occ.{Occ}
use Rattle.rule_tables.specs.Slots.{Con}
use Rattle.flat_terms.specs.Scene.{gives, occ}
use Rattle.flat_terms.specs.Folds.{places_by}
use Rattle.flat_terms.proofs.FoldLemmas.{none-is, givers-are, gives-fit, places-kept, needs-below}
use Rattle.flat_terms.proofs.needs.push_below.Goals as goal

pub returns : goal.returns
returns c =
    let site = c.args.site.now in
    let cons = c.args.cons.now in
    let items = c.in_ok-places.places.items in
    let joined = c.joined-joined.result.now in
    IfOk-weaker c.push_cons.result _ _ (λ u h scene is gathered.
    let same : items ≡ gives scene cons = c.in_ok-places.ensures scene.plain is.right ∙ givers-are scene site is cons gathered in
    let by_role : joined ≡ places_by site.role c.is_none.result (gives scene cons) = c.joined-joined.ensures ∙ ap (places_by site.role c.is_none.result) (c.as_slice.ensures.value ∙ same) in
    h scene is (λ j m. gives-fit scene site is cons j (places-kept scene site is cons site.role c.is_none.result (gives scene cons) j (subst (λ (l : List ℕ). Contains l j) by_role m)))
    ∙ ap (λ (l : List Occ). c.args.found.now.items ++ l)
    (ap (map (λ j. occ scene j (Con cons.number))) (by_role ∙ ap (λ b. places_by site.role b (gives scene cons)) (none-is cons.with c.is_none.result c.is_none.ensures)) ∙ needs-below scene site is cons cons.with refl)) c.push_cons.ensures
