-- The index grows by one computation each time.
use Rattle.std.specs.List.{slice_index_or}
use Rattle.std.specs.Prelude.{Bool, true, false, cond, Contains}
use Rattle.std.proofs.Common.{◌≡◌, ℕ, ◌+◌, ◌<◌, length, take, List, [], ◌∷◌, ◌++◌, Some, None, refl, sym, ap, ◌∙◌, subst, inl, inr}
use Rattle.std.proofs.lemmas.List.{take_more}
use Rattle.std.proofs.lemmas.List.Elements.{Contains-push_cases, Contains-push, Contains-append_left}
use Rattle.std.proofs.lemmas.Option.{none-some, same_Some}
use Rattle.lido_base.proofs.Lists.{contains-nil}
use Rattle.computation_aims.specs.declared.aims.Aim.{Aim}
use Rattle.symbol_inherit.specs.declared.notes.Own.{Own}
use Rattle.symbol_inherit.specs.declared.notes.Note.{Note}
use Rattle.symbol_inherit.specs.declared.index.Index.{Index}
use Rattle.computation_aims.specs.Keys.{is_same_aim}
use Rattle.computation_aims.proofs.KeyLemmas.{same-aim, aim-same}
use Rattle.symbol_inherit.specs.Index.{noted, Holds}

pub holds-none : (index : Index) → ((place : ℕ) (aim : Aim) → noted index place aim ≡ None) → Holds [] index
holds-none index none = record {
  each = λ place aim own e. absurd (none-some _ (sym (none place aim) ∙ e));
  all = λ note m. absurd (contains-nil note m);
}

pub holds-more : (notes : List Note) (note : Note) (old new : Index) → Holds notes old
    → ((place : ℕ) (aim : Aim) → noted new place aim ≡ cond (is_same_aim note.place note.aim place aim) (Some note.own) (noted old place aim))
    → Holds (notes ++ note ∷ []) new
holds-more notes note old new holds noted_new = record { each = λ place aim own e. each place aim own (is_same_aim note.place note.aim place aim) refl e; all = all }
  where
    each : (place : ℕ) (aim : Aim) (own : Own) (b : Bool) → is_same_aim note.place note.aim place aim ≡ b → noted new place aim ≡ Some own
        → Contains (notes ++ note ∷ []) (record { place = place; aim = aim; own = own })
    each place aim own true s e =
        let t = same-aim note.place place note.aim aim s in
        let o : note.own ≡ own = same_Some _ _ (sym (noted_new place aim ∙ ap (λ b. cond b (Some note.own) (noted old place aim)) s) ∙ e) in
        let p = t.0 in let a = t.1 in
        subst (λ n. Contains (notes ++ note ∷ []) n) (λ i. record { place = p i; aim = a i; own = o i }) (Contains-push notes note)
    each place aim own false s e =
        Contains-append_left notes (note ∷ []) _ (holds.each place aim own (sym (noted_new place aim ∙ ap (λ b. cond b (Some note.own) (noted old place aim)) s) ∙ e))

    at : (n : Note) (b : Bool) → is_same_aim note.place note.aim n.place n.aim ≡ b → ((own : Own) × (noted old n.place n.aim ≡ Some own)) → (own : Own) × (noted new n.place n.aim ≡ Some own)
    at n true s (own, e) = (note.own, noted_new n.place n.aim ∙ ap (λ b. cond b (Some note.own) (noted old n.place n.aim)) s)
    at n false s (own, e) = (own, noted_new n.place n.aim ∙ ap (λ b. cond b (Some note.own) (noted old n.place n.aim)) s ∙ e)

    all : (n : Note) → Contains (notes ++ note ∷ []) n → (own : Own) × (noted new n.place n.aim ≡ Some own)
    all n m = elim (Contains-push_cases notes note n m) [
      | inl earlier ↦ at n (is_same_aim note.place note.aim n.place n.aim) refl (holds.all n earlier)
      | inr e ↦ (note.own, subst (λ (k : Note). noted new k.place k.aim ≡ Some note.own) e (noted_new note.place note.aim ∙ ap (λ b. cond b (Some note.own) (noted old note.place note.aim)) (aim-same note.place note.aim)))
    ]

pub holds-step : (notes : List Note) (i : ℕ) (d : Note) (old new : Index) → i < length notes → Holds (take i notes) old
    → ((place : ℕ) (aim : Aim) → noted new place aim
    ≡ cond (is_same_aim (slice_index_or notes i d).place (slice_index_or notes i d).aim place aim) (Some (slice_index_or notes i d).own) (noted old place aim))
    → Holds (take (i + 1) notes) new
holds-step notes i d old new within holds noted_new =
    subst (λ l. Holds l new) (sym (take_more notes i d within)) (holds-more (take i notes) (slice_index_or notes i d) old new holds noted_new)
