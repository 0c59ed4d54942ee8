-- Types by numbers, one after another.
use Rattle.std.specs.Prelude.{Contains, nat_eq, filter_map, option_to_list}
use Rattle.std.proofs.Common.{◌≡◌, ◌∙◌, ℕ, ◌+◌, ◌<◌, inl, inr, Bool, true, false, if◌then◌else◌, List, [], ◌∷◌, ◌++◌}
use Rattle.std.proofs.Common.{length, map, take, get_or, Option, Some, None, refl, ap, sym, subst, eqb-true, eq-eqb, true≢false, append-nil}
use Rattle.std.proofs.lemmas.List.{take_more, map-append}
use Rattle.std.proofs.lemmas.List.Elements.{Contains-append_left, Contains-push, Contains-push_cases}
use Rattle.std.proofs.lemmas.Option.{none-some, same_Some}
use Rattle.lido_base.specs.declared.value.ValueType.{ValueType}
use Rattle.lido_base.proofs.Lists.{contains-nil}
use Rattle.lido_symbols.proofs.CollectedLemmas.{filtered_more}
use Rattle.flat_symbols.specs.declared.types.Types.{Types}
use Rattle.flat_symbols.specs.Types.{type_in, AreTypesOf}

pub no-types : (types : Types) → ((n : ℕ) → type_in types n ≡ None) → AreTypesOf [] types
no-types types none = record {
  only = λ n ty e. absurd (none-some ty (sym (none n) ∙ e));
  all = λ n ty m e. contains-nil (n, ty) m;
}

one-type : (pairs : List (ℕ × ValueType)) (k : ℕ) (ty : ValueType) (old new : Types)
    → ((n : ℕ) → type_in new n ≡ (if nat_eq k n then Some ty else type_in old n)) → AreTypesOf pairs old
    → AreTypesOf (pairs ++ (k, ty) ∷ []) new
one-type pairs k ty old new set before = record {
  only = λ n u e. only n u (nat_eq k n) refl (sym (set n) ∙ e);
  all = λ n u m e. all n u (nat_eq k n) refl m (sym (set n) ∙ e);
}
  where
    only : (n : ℕ) (u : ValueType) (b : Bool) → nat_eq k n ≡ b → (if b then Some ty else type_in old n) ≡ Some u → Contains (pairs ++ (k, ty) ∷ []) (n, u)
    only n u true f e =
        let number = eqb-true k n f in
        let kind = same_Some ty u e in
        subst (λ z. Contains (pairs ++ (k, ty) ∷ []) z) (λ i. (number i, kind i)) (Contains-push pairs (k, ty))
    only n u false f e = Contains-append_left pairs ((k, ty) ∷ []) (n, u) (before.only n u e)

    all : (n : ℕ) (u : ValueType) (b : Bool) → nat_eq k n ≡ b → Contains (pairs ++ (k, ty) ∷ []) (n, u) → (if b then Some ty else type_in old n) ≡ None → ⊥
    all n u true f m e = none-some ty (sym e)
    all n u false f m e = elim (Contains-push_cases pairs (k, ty) (n, u) m) [
      | inl there ↦ before.all n u there e
      | inr same ↦ true≢false (sym (eq-eqb k n (ap (λ (z : ℕ × ValueType). z.0) same)) ∙ f)
    ]

module _ {X : Type 0} (h : X → Option (ℕ × ValueType)) (xs : List X) (i : ℕ) (x d : X) (below : i < length xs) (at : x ≡ get_or xs i d) where
  next : filter_map h (take i xs) ++ option_to_list (h x) ≡ filter_map h (take (i + 1) xs)
  next = filtered_more h xs i x d (filter_map h (take i xs)) (filter_map h (take i xs) ++ option_to_list (h x)) below at refl refl

  -- an item without a type, and one with a type
  pub types-kept : h x ≡ None → (types : Types) → AreTypesOf (filter_map h (take i xs)) types → AreTypesOf (filter_map h (take (i + 1) xs)) types
  types-kept none types before =
      subst (λ l. AreTypesOf l types) (sym (append-nil (filter_map h (take i xs))) ∙ ap (λ o. filter_map h (take i xs) ++ option_to_list o) (sym none)
      ∙ next) before

  pub types-more : (k : ℕ) (ty : ValueType) → h x ≡ Some (k, ty) → (old new : Types)
      → ((n : ℕ) → type_in new n ≡ (if nat_eq k n then Some ty else type_in old n)) → AreTypesOf (filter_map h (take i xs)) old
      → AreTypesOf (filter_map h (take (i + 1) xs)) new
  types-more k ty some old new set before =
      subst (λ l. AreTypesOf l new) (ap (λ o. filter_map h (take i xs) ++ option_to_list o) (sym some) ∙ next)
      (one-type (filter_map h (take i xs)) k ty old new set before)

-- an item of which each has a type
pub types-mapped : {X : Type 0} (f : X → ℕ × ValueType) (xs : List X) (i : ℕ) (x d : X) → i < length xs → x ≡ get_or xs i d → (old new : Types)
    → ((n : ℕ) → type_in new n ≡ (if nat_eq (f x).0 n then Some (f x).1 else type_in old n)) → AreTypesOf (map f (take i xs)) old
    → AreTypesOf (map f (take (i + 1) xs)) new
types-mapped {X} f xs i x d below at old new set before =
    let more : map f (take (i + 1) xs) ≡ map f (take i xs) ++ f x ∷ [] =
    ap (map f) (take_more xs i d below ∙ ap (λ (y : X). take i xs ++ y ∷ []) (sym at)) ∙ map-append f (take i xs) (x ∷ []) in
    subst (λ l. AreTypesOf l new) (sym more) (one-type (map f (take i xs)) (f x).0 (f x).1 old new set before)
