-- The direct dependencies of a rule, gained edge by edge.
use Rattle.std.specs.Prelude.{slice_index_or, Contains}
use Rattle.std.proofs.Common.{◌≡◌, ℕ, ◌+◌, ◌<◌, ◌≤◌, ◌↔◌, inl, inr, sym, ap, subst, ◌∙◌, arith, List, [], length, take}
use Rattle.std.proofs.lemmas.List.Elements.{All-contains}
use Rattle.std.proofs.lemmas.Option.{get_or_from_slice_get}
use Rattle.flat_grammar.specs.declared.flat.Occ.{Occ}
use Rattle.flat_grammar.specs.declared.flat.FlatComp.{FlatComp}
use Rattle.flat_grammar.specs.Rules.{dependencies}
use Rattle.flat_grammar.proofs.Lists.{contains-nil, contains-slice_get, take_less, take_here, take_cases}
use Rattle.induced_deps.specs.declared.row.Row.{Row}
use Rattle.induced_deps.specs.declared.graph.Place.{Place}
use Rattle.induced_deps.specs.Rows.{IsIn, Gains, FromOne}
use Rattle.induced_deps.specs.Vertices.{no_place, AreWithin, IsPlaced, number_in, ToGoal, OfComps}
use Rattle.induced_deps.proofs.ClosureLemmas.{gains_none, gains_then}

module _ (places : List Place) where
  -- a vertex of the places is one of so many
  pub placed_within : (count : ℕ) (o : Occ) (n : ℕ) → n ≡ number_in places o → AreWithin places count → IsPlaced places o → n < count
  placed_within count o n is within placed =
      let at : slice_index_or places o.occ no_place ≡ placed.place = get_or_from_slice_get places o.occ placed.place no_place placed.at in
      let inside = All-contains (λ (p : Place). p.offset + p.width ≤ count) places placed.place within (contains-slice_get places o.occ placed.place placed.at) in
      let below = placed.within in
      let number : n ≡ placed.place.offset + o.attr.0 = is ∙ ap (λ (p : Place). p.offset + o.attr.0) at in
      omega arith

  pub no_dependencies : (rows : List Row) (goal : Occ) → Gains rows rows (ToGoal places [] goal)
  no_dependencies rows goal = gains_none rows (ToGoal places [] goal) (λ v w h. contains-nil h.0 h.1)

  -- the edges from one more
  pub one_dependency_more : (old middle new : List Row) (before : List Occ) (goal : Occ) (k : ℕ) (d : Occ) (n m : ℕ) (words : List ℕ) → k < length before → n ≡ number_in places (slice_index_or before k d)
      → m ≡ number_in places goal → ((w : ℕ) → IsIn words w ↔ (w ≡ m))
      → Gains old middle (ToGoal places (take k before) goal) → Gains middle new (FromOne n words) → Gains old new (ToGoal places (take (k + 1) before) goal)
  one_dependency_more old middle new before goal k d n m words within is goal_is only first second =
      gains_then old middle new (ToGoal places (take k before) goal) (FromOne n words) (ToGoal places (take (k + 1) before) goal)
      (λ v w h. (h.0, take_less before k d h.0 within h.1, h.2, h.3))
      (λ v w h. (slice_index_or before k d, take_here before k d within, h.0 ∙ is, (only w).0 h.1 ∙ goal_is))
      (λ v w h. elim (take_cases before k d h.0 within h.1) [ inl earlier ↦ inl (h.0, earlier, h.2, h.3) | inr same ↦ inr (h.2 ∙ ap (number_in places) (sym same) ∙ sym is, (only w).1 (h.3 ∙ sym goal_is)) ])
      first second

  -- the same elements have the same edges
  pub same_dependencies : (old new : List Row) (before others : List Occ) (goal : Occ) → ((u : Occ) → Contains before u ↔ Contains others u) → Gains old new (ToGoal places before goal) → Gains old new (ToGoal places others goal)
  same_dependencies old new before others goal same g = gains_then old new new (ToGoal places before goal) (λ v w. ⊥) (ToGoal places others goal)
      (λ v w h. (h.0, (same h.0).0 h.1, h.2, h.3)) (λ v w h. absurd h) (λ v w h. inl (h.0, (same h.0).1 h.1, h.2, h.3)) g (gains_none new (λ v w. ⊥) (λ v w h. h))

  pub no_comps : (rows : List Row) → Gains rows rows (OfComps places [])
  no_comps rows = gains_none rows (OfComps places []) (λ v w h. contains-nil h.0 h.1)

  -- the edges of one more computation
  pub one_comp_more : (old middle new : List Row) (comps : List FlatComp) (k : ℕ) (d c : FlatComp) → k < length comps → c ≡ slice_index_or comps k d
      → Gains old middle (OfComps places (take k comps)) → Gains middle new (ToGoal places (dependencies c) c.goal) → Gains old new (OfComps places (take (k + 1) comps))
  one_comp_more old middle new comps k d c within is first second =
      gains_then old middle new (OfComps places (take k comps)) (ToGoal places (dependencies c) c.goal) (OfComps places (take (k + 1) comps))
      (λ v w h. (h.0, take_less comps k d h.0 within h.1, h.2))
      (λ v w h. (c, subst (λ x. Contains (take (k + 1) comps) x) (sym is) (take_here comps k d within), h))
      (λ v w h. elim (take_cases comps k d h.0 within h.1) [ inl earlier ↦ inl (h.0, earlier, h.2) | inr same ↦ inr (subst (λ (x : FlatComp). ToGoal places (dependencies x) x.goal v w) (sym (is ∙ same)) h.2) ])
      first second
