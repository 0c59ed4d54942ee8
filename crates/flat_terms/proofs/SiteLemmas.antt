-- The attributes of a plain rule's occurrences, by the tables.
use Rattle.std.specs.Prelude.{slice_get, option_map}
use Rattle.std.proofs.Common.{◌≡◌, ℕ, suc, ◌≤◌, Bool, true, false, if◌then◌else◌, List, [], ◌∷◌, length, Option, Some, None, sym, ap, ◌∙◌, arith}
use Rattle.std.proofs.lemmas.Option.{slice_get-map}
use Rattle.lido_base.specs.declared.ids.SymId.{SymId}
use Rattle.flat_grammar.specs.Rules.{symbol_at}
use Rattle.lido_symbols.specs.Numbers.{place_in}
use Rattle.rule_tables.specs.PlainRules as plain
use Rattle.rule_tables.specs.Slots.{Slot, is_same_slot}
use Rattle.flat_slots.specs.Slots.{slots_in}
use Rattle.flat_terms.specs.declared.site.Site.{Site}
use Rattle.flat_terms.specs.Scene.{Scene, slot_number, occ}
use Rattle.flat_terms.specs.Sites.{IsSiteOf}

place-within : {X : Type 0} (p : X → Bool) (xs : List X) → place_in p xs ≤ length xs
place-within p [] = omega arith
place-within p (x ∷ xs) = by (p x) (place-within p xs)
  where
    by : (b : Bool) → place_in p xs ≤ length xs → (if b then 0 else suc (place_in p xs)) ≤ length (x ∷ xs)
    by true h = omega arith
    by false h = omega (arith, h)

module _ (scene : Scene) (site : Site) (is : IsSiteOf scene site) where
  symbol-there : (k : ℕ) → option_map (λ (x : SymId). x.0) (symbol_at site.plain.now k) ≡ plain.symbol_at scene.plain k
  symbol-there k = sym (slice_get-map (λ (x : SymId). x.0) (site.plain.now.left ∷ site.plain.now.right) k) ∙ ap (λ (l : List ℕ). slice_get l k) (λ i. is.left i ∷ is.right i)

  pub number-there : (k : ℕ) (x : SymId) (s : Slot) → symbol_at site.plain.now k ≡ Some x → place_in (is_same_slot s) (slots_in site.slots.now x.0) ≡ (occ scene k s).attr.0
  number-there k x s at = ap (place_in (is_same_slot s)) (is.slots x.0)
      ∙ ap (λ o. slot_number scene o s) (sym (ap (option_map (λ (y : SymId). y.0)) at) ∙ symbol-there k)

  pub number-missing : (k : ℕ) (s : Slot) → symbol_at site.plain.now k ≡ None → 0 ≡ (occ scene k s).attr.0
  number-missing k s at = ap (λ o. slot_number scene o s) (sym (ap (option_map (λ (y : SymId). y.0)) at) ∙ symbol-there k)

  fits : (o : Option ℕ) (s : Slot) → slot_number scene o s ≤ 65535
  fits None s = omega arith
  fits (Some x) s = omega (arith, place-within (is_same_slot s) (scene.slots x), is.few_slots x)

  pub number-fits : (k : ℕ) (s : Slot) → (occ scene k s).attr.0 ≤ 65535
  number-fits k s = fits (plain.symbol_at scene.plain k) s
