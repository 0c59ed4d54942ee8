-- The index of a rule's goals grows along its computations.
use Rattle.std.specs.Prelude.{Bool, true, false, cond, Contains, map, slice_get}
use Rattle.std.specs.List.{slice_index_or}
use Rattle.std.proofs.Common.{◌≡◌, ℕ, ◌+◌, ◌<◌, ◌≤◌, inl, inr, List, [], ◌∷◌, ◌++◌, length, take, Option, Some, None, refl, arith, ap, sym, subst, ◌∙◌}
use Rattle.std.proofs.lemmas.Option.{slice_get_within, slice_get_read}
use Rattle.std.proofs.lemmas.List.{take_more, take_all, length-take}
use Rattle.std.proofs.lemmas.List.Elements.{Contains-push_cases}
use Rattle.flat_grammar.specs.declared.flat.Occ.{Occ}
use Rattle.flat_grammar.specs.declared.flat.FlatComp.{FlatComp}
use Rattle.flat_grammar.specs.WellFormed.{is_same_occ}
use Rattle.flat_grammar.proofs.Lists.{slice_get-take}
use Rattle.sequence_checker.specs.declared.goals.Goals.{Goals}
use Rattle.sequence_checker.specs.Goals.{goal_place, IsPlace, IsIndexOf}
use Rattle.sequence_checker.proofs.Bools.{never, same-occurrence, occurrence-same}
use Rattle.sequence_checker.proofs.GoalLemmas.{goal-computation, computation-goal}

module _ (comps : List FlatComp) (i : ℕ) (c : FlatComp) (within : i < length comps) (at : c ≡ slice_index_or comps i c) where
  there : slice_get comps i ≡ Some c
  there = slice_get_read comps (length comps) i c refl within at

  still : (o : Occ) → is_same_occ c.goal o ≡ false → (p : Option ℕ) → IsPlace (take i comps) o p → IsPlace (take (i + 1) comps) o p
  still o apart None none = λ m. by (goal-computation (take (i + 1) comps) o m)
    where
      by : ((d : FlatComp) × Contains (take (i + 1) comps) d × (d.goal ≡ o)) → ⊥
      by (d, n, e) = elim (Contains-push_cases (take i comps) c d (subst (λ l. Contains l d) (take_more comps i c within ∙ ap (λ x. take i comps ++ x ∷ []) (sym at)) n)) [
        | inl l ↦ none (subst (Contains (map (λ (x : FlatComp). x.goal) (take i comps))) e (computation-goal (take i comps) d l))
        | inr s ↦ never (sym apart ∙ occurrence-same c.goal o (ap (λ (x : FlatComp). x.goal) s ∙ e))
      ]
  still o apart (Some k) (d, e, g) =
      let l = slice_get_within (take i comps) k d e in
      let n = length-take i comps in
      let before : k < i = omega arith in
      (d, slice_get-take comps (i + 1) k (omega arith) ∙ (sym (slice_get-take comps i k before) ∙ e), g)

  pub index-more : (old new : Goals) → IsIndexOf (take i comps) old → ((o : Occ) → goal_place new o ≡ cond (is_same_occ c.goal o) (Some i) (goal_place old o)) → IsIndexOf (take (i + 1) comps) new
  index-more old new index noted o = by (is_same_occ c.goal o) refl
    where
      by : (b : Bool) → is_same_occ c.goal o ≡ b → IsPlace (take (i + 1) comps) o (goal_place new o)
      by true e = subst (IsPlace (take (i + 1) comps) o) (sym (noted o ∙ ap (λ b. cond b (Some i) (goal_place old o)) e)) (c, slice_get-take comps (i + 1) i (omega arith) ∙ there, same-occurrence c.goal o e)
      by false e = subst (IsPlace (take (i + 1) comps) o) (sym (noted o ∙ ap (λ b. cond b (Some i) (goal_place old o)) e)) (still o e (goal_place old o) (index o))

pub whole-index : (comps seen : List FlatComp) (i : ℕ) (g : Goals) → seen ≡ comps → length seen ≤ i → IsIndexOf (take i comps) g → IsIndexOf comps g
whole-index comps seen i g same past index = subst (λ l. IsIndexOf l g) (take_all i comps (let e = ap (λ (l : List FlatComp). length l) same in omega arith)) index

pub index-step : (comps seen : List FlatComp) (i : ℕ) (c : FlatComp) (old new : Goals) → seen ≡ comps → i < length seen → c ≡ slice_index_or seen i c → IsIndexOf (take i comps) old
    → ((o : Occ) → goal_place new o ≡ cond (is_same_occ c.goal o) (Some i) (goal_place old o)) → IsIndexOf (take (i + 1) comps) new
index-step comps seen i c old new same within at index noted =
    index-more comps i c (let e = ap (λ (l : List FlatComp). length l) same in omega arith) (at ∙ ap (λ l. slice_index_or l i c) same) old new index noted
