-- The ids of texts that were added.
use Rattle.std.specs.Prelude.{slice_get}
use Rattle.std.specs.Str.{bytes_eq}
use Rattle.std.proofs.Common.{◌≡◌, ◌∙◌, ℕ, zero, suc, Bool, true, false, if◌then◌else◌, List, [], ◌∷◌, ◌++◌, Some, refl, ap, sym}
use Rattle.std.proofs.lemmas.Option.{none-some, same_Some}
use Rattle.std.proofs.lemmas.Slice.Eq.{bytes_eq-Decides}
use Rattle.lido_base.specs.Environment.{Environment}
use Rattle.lido_base.specs.Texts.{Gains, IsDistinctTexts}
use Rattle.lido_base.proofs.TextsLemmas.{same_place}
use Rattle.lido_syntax.specs.Functions.{text_of}
use Rattle.lido_symbols.specs.Numbers.{place_in}
use Rattle.rule_tables.specs.Copies.{id_of}
use Rattle.rule_tables.proofs.LaterTexts.{later-text}
use Rattle.flat_symbols.specs.Messages.{IsIdOf}

-- a text that stands there stands at its first place, and what stands behind changes that place not
first-place : (t : List ℕ) (texts more : List (List ℕ)) (i : ℕ) → slice_get texts i ≡ Some t
    → (place_in (bytes_eq t) (texts ++ more) ≡ place_in (bytes_eq t) texts) × (slice_get texts (place_in (bytes_eq t) texts) ≡ Some t)
first-place t [] more i e = absurd (none-some _ e)
first-place t (x ∷ xs) more zero e =
    let here : bytes_eq t x ≡ true = (bytes_eq-Decides t x).1 (sym (same_Some _ _ e)) in
    let own = ap (λ (b : Bool). if b then 0 else suc (place_in (bytes_eq t) xs)) here in (
      ap (λ (b : Bool). if b then 0 else suc (place_in (bytes_eq t) (xs ++ more))) here ∙ sym own,
      ap (slice_get (x ∷ xs)) own ∙ e,
    )
first-place t (x ∷ xs) more (suc i) e = by (bytes_eq t x) refl (first-place t xs more i e)
  where
    by : (b : Bool) → bytes_eq t x ≡ b → (place_in (bytes_eq t) (xs ++ more) ≡ place_in (bytes_eq t) xs) × (slice_get xs (place_in (bytes_eq t) xs) ≡ Some t)
        → ((if b then 0 else suc (place_in (bytes_eq t) (xs ++ more))) ≡ (if b then 0 else suc (place_in (bytes_eq t) xs)))
        × (slice_get (x ∷ xs) (if b then 0 else suc (place_in (bytes_eq t) xs)) ≡ Some t)
    by true h later = (refl, ap Some (sym ((bytes_eq-Decides t x).0 h)))
    by false h later = (ap suc later.0, later.1)

-- the id of a text that was added, once more texts are there
pub added-id : (texts : List (List ℕ)) (env : Environment) (id : ℕ) (t : List ℕ) → IsDistinctTexts texts → slice_get texts id ≡ Some t
    → Gains texts env.texts → IsIdOf env t id
added-id texts env id t distinct there gains =
    let (same, first) = first-place t texts gains.added id there in
    let own : id ≡ place_in (bytes_eq t) texts = same_place texts distinct id (place_in (bytes_eq t) texts) t there first in
    let place : id ≡ id_of env t = own ∙ sym (ap (place_in (bytes_eq t)) gains.behind ∙ same) in
    record {
      place = place;
      there = ap (text_of env) (sym place) ∙ later-text texts env id t gains there;
    }
