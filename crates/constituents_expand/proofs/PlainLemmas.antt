-- What a plain rule is by its number, and how many children have an attribute.
use Rattle.std.specs.Prelude.{Contains, slice_get, map, flat_map, filter, not, if◌then◌else◌, option_map}
use Rattle.std.proofs.Common.{◌≡◌, ◌∙◌, ℕ, zero, suc, ◌≤◌, ◌⊎◌, inl, inr, Bool, true, false, List, [], ◌∷◌, ◌++◌, length, Option, Some, None, refl, sym, ap, subst, arith}
use Rattle.std.proofs.lemmas.Option.{none-some, same_Some, slice_get-map}
use Rattle.std.proofs.lemmas.List.Elements.{Contains-append_cases}
use Rattle.lido_base.proofs.Lists.{contains-nil, contains-cons, contains-map, contains-flat, place-contains}
use Rattle.lido_syntax.specs.declared.spec.Spec.{Spec}
use Rattle.lido_syntax.specs.declared.spec.RuleItem.{RuleItem}
use Rattle.lido_syntax.specs.Production.{right_of}
use Rattle.lido_symbols.specs.Numbers.{enumerated, different}
use Rattle.rule_tables.specs.PlainRules as plain
use Rattle.rule_tables.specs.PlainRules.{PlainRule, Role, Whole, Listing, Link, End, written_rule, cell_rules, plain_rules}
use Rattle.rule_tables.proofs.SlotLemmas.{enumerated-at}
use Rattle.constituents_expand.specs.Extras.{is_whole}
use Rattle.constituents_expand.proofs.ShareLemmas.{is_whole_role, IsBounded}

pub append-cases : {X : Type 0} (xs ys : List X) (i : ℕ) (x : X) → slice_get (xs ++ ys) i ≡ Some x → (slice_get xs i ≡ Some x) ⊎ ((slice_get xs i ≡ None) × Contains ys x)
append-cases [] ys i x e = inr (refl, place-contains ys i x e)
append-cases (z ∷ xs) ys zero x e = inl e
append-cases (z ∷ xs) ys (suc i) x e = append-cases xs ys i x e

number-at : {X : Type 0} (n : ℕ) (xs : List X) (i : ℕ) (z : ℕ × X) → slice_get (enumerated n xs) i ≡ Some z → slice_get xs i ≡ Some z.1
number-at n [] i z e = absurd (none-some _ e)
number-at n (y ∷ ys) zero z e = ap (λ (w : Option (ℕ × _)). option_map (λ w. w.1) w) e
number-at n (y ∷ ys) (suc i) z e = number-at (suc n) ys i z e

some-mapped : {X Y : Type 0} (f : X → Y) (o : Option X) (y : Y) → option_map f o ≡ Some y → (x : X) × (o ≡ Some x) × (f x ≡ y)
some-mapped f None y e = absurd (none-some y e)
some-mapped f (Some x) y e = (x, refl, same_Some _ _ e)

-- what is at most so many is so of fewer
pub fewer-bounded : (role : Role) (m n : ℕ) → m ≤ n → IsBounded role n → IsBounded role m
fewer-bounded Whole m n l b = tt
fewer-bounded Listing m n l b = omega (arith, l, b)
fewer-bounded (Link s) m n l b = omega (arith, l, b)
fewer-bounded End m n l b = omega (arith, l, b)

module _ (h : ℕ → Bool) where
  pub places-few : (n : ℕ) (xs : List ℕ) → length (map (λ (x : ℕ × ℕ). x.0) (filter (λ (x : ℕ × ℕ). h x.1) (enumerated n xs))) ≤ length xs
  places-few n [] = omega arith
  places-few n (x ∷ xs) = by (h x) (places-few (suc n) xs)
    where
      by : (b : Bool) → length (map (λ (x : ℕ × ℕ). x.0) (filter (λ (x : ℕ × ℕ). h x.1) (enumerated (suc n) xs))) ≤ length xs
          → length (map (λ (x : ℕ × ℕ). x.0) (if b then (n, x) ∷ filter (λ (x : ℕ × ℕ). h x.1) (enumerated (suc n) xs) else filter (λ (x : ℕ × ℕ). h x.1) (enumerated (suc n) xs))) ≤ suc (length xs)
      by true l = omega (arith, l)
      by false l = omega (arith, l)

module _ (spec : Spec) (symbols : List ℕ) where
  -- what the number of a plain rule tells
  pub record IsToldBy (i : ℕ) (p : PlainRule) : Type 0 where
    pub whole : is_whole spec.rules i ≡ is_whole_role p.role
    pub few : IsBounded p.role (length p.right)

  written-told : (i : ℕ) (z : ℕ × RuleItem) → slice_get spec.rules i ≡ Some z.1 → IsToldBy i (written_rule spec symbols z)
  written-told i z at = record {
    whole = ap (λ (o : Option RuleItem). elim o as (λ _. Bool) [ None ↦ false | Some r ↦ not r.list ]) at ∙ by z.1.list;
    few = most z.1.list;
  }
    where
      by : (b : Bool) → not b ≡ is_whole_role (if b then Listing else Whole)
      by true = refl
      by false = refl

      most : (b : Bool) → IsBounded (if b then Listing else Whole) (length (if b then plain.cell spec symbols z.0 ∷ [] else map (plain.number spec symbols) (right_of z.1)))
      most true = omega arith
      most false = tt

  abbrev link : ℕ → ℕ → PlainRule
  link i s = record { rule = i; role = Link s; left = plain.cell spec symbols i; right = plain.number spec symbols s ∷ plain.cell spec symbols i ∷ [] }

  abbrev end : ℕ → PlainRule
  end i = record { rule = i; role = End; left = plain.cell spec symbols i; right = [] }

  cell-told : (i : ℕ) (z : ℕ × RuleItem) (p : PlainRule) → slice_get spec.rules i ≡ None → Contains (cell_rules spec symbols z) p → IsToldBy i p
  cell-told i z p none m = by z.1.list m
    where
      no : is_whole spec.rules i ≡ false
      no = ap (λ (o : Option RuleItem). elim o as (λ _. Bool) [ None ↦ false | Some r ↦ not r.list ]) none

      by : (b : Bool) → Contains (if b then map (link z.0) (different (right_of z.1)) ++ end z.0 ∷ [] else []) p → IsToldBy i p
      by false k = absurd (contains-nil p k)
      by true k = elim (Contains-append_cases (map (link z.0) (different (right_of z.1))) (end z.0 ∷ []) p k) [
        | inl l ↦ (let (s, among, e) = contains-map (link z.0) (different (right_of z.1)) p l in subst (IsToldBy i) e (record { whole = no; few = omega arith }))
        | inr l ↦ elim (contains-cons (end z.0) p [] l) [ inl e ↦ subst (IsToldBy i) e (record { whole = no; few = omega arith }) | inr n ↦ absurd (contains-nil p n) ]
      ]

  pub plain-told : (i : ℕ) (p : PlainRule) → slice_get (plain_rules spec symbols) i ≡ Some p → IsToldBy i p
  plain-told i p at = elim (append-cases (map (written_rule spec symbols) (enumerated 0 spec.rules)) (flat_map (cell_rules spec symbols) (enumerated 0 spec.rules)) i p at) [
    | inl e ↦ (let (z, there, same) = some-mapped (written_rule spec symbols) (slice_get (enumerated 0 spec.rules) i) p (sym (slice_get-map (written_rule spec symbols) (enumerated 0 spec.rules) i) ∙ e) in
        subst (IsToldBy i) same (written-told i z (number-at 0 spec.rules i z there)))
    | inr e ↦ (let (z, among, here) = contains-flat (cell_rules spec symbols) (enumerated 0 spec.rules) p e.1 in cell-told i z p (behind (slice_get spec.rules i) refl e.0) here)
  ]
    where
      behind : (o : Option RuleItem) → slice_get spec.rules i ≡ o → slice_get (map (written_rule spec symbols) (enumerated 0 spec.rules)) i ≡ None → slice_get spec.rules i ≡ None
      behind None e none = e
      behind (Some r) e none = absurd (none-some _ (sym none ∙ slice_get-map (written_rule spec symbols) (enumerated 0 spec.rules) i ∙ ap (option_map (written_rule spec symbols)) (enumerated-at 0 i r spec.rules e)))
