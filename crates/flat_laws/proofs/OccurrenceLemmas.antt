-- A name that means an occurrence is that of its symbol.
use Rattle.std.specs.Prelude.{Bool, true, false, ◌&&◌, if◌then◌else◌, is_some, nat_eq, slice_get}
use Rattle.std.proofs.Common.{◌≡◌, ℕ, ℤ, pos, negsuc, zero, suc, ◌-◌, ◌≤◌, arith, List, [], ◌∷◌, Option, Some, None, refl, sym, ap, ◌∙◌, eqb-true}
use Rattle.std.proofs.lemmas.Option.{none-some, same_Some}
use Rattle.lido_syntax.specs.declared.spec.Name.{Name}
use Rattle.lido_syntax.specs.declared.spec.RuleItem.{RuleItem}
use Rattle.lido_syntax.specs.Production.{name_of, left_of, right_of, production, places_from, indexed, occurrence, CanStandAt}

places-named : (k x : ℕ) (ys : List ℕ) (i j : ℕ) → slice_get (places_from k x ys) i ≡ Some j → (k ≤ j) × (slice_get ys (j - k) ≡ Some x)
places-named k x [] i j e = absurd (none-some j e)
places-named k x (y ∷ ys) i j e = by (nat_eq x y) refl i e (λ i. places-named (suc k) x ys i j)
  where
    later : (suc k ≤ j) × (slice_get ys (j - suc k) ≡ Some x) → (k ≤ j) × (slice_get (y ∷ ys) (j - k) ≡ Some x)
    later (le, f) = let z : j - k ≡ suc (j - suc k) = omega arith in (omega arith, ap (slice_get (y ∷ ys)) z ∙ f)

    by : (b : Bool) → nat_eq x y ≡ b → (i : ℕ) → slice_get (if b then k ∷ places_from (suc k) x ys else places_from (suc k) x ys) i ≡ Some j
        → ((i : ℕ) → slice_get (places_from (suc k) x ys) i ≡ Some j → (suc k ≤ j) × (slice_get ys (j - suc k) ≡ Some x)) → (k ≤ j) × (slice_get (y ∷ ys) (j - k) ≡ Some x)
    by true same zero e more =
        let at = same_Some k j e in
        let z : j - k ≡ 0 = omega arith in
        (omega arith, ap (slice_get (y ∷ ys)) z ∙ ap Some (sym (eqb-true x y same)))
    by true same (suc i) e more = later (more i e)
    by false other i e more = later (more i e)

indexed-in : (i : Option ℤ) (places : List ℕ) (j : ℕ) → indexed i places ≡ Some j → (n : ℕ) × (slice_get places n ≡ Some j)
indexed-in None [] j e = absurd (none-some j e)
indexed-in None (k ∷ []) j e = (0, e)
indexed-in None (k ∷ l ∷ more) j e = absurd (none-some j e)
indexed-in (Some (pos zero)) places j e = absurd (none-some j e)
indexed-in (Some (pos (suc n))) places j e = (n, e)
indexed-in (Some (negsuc n)) places j e = absurd (none-some j e)

pub occurrence-names : (r : RuleItem) (x : Name) (i : Option ℤ) (k : ℕ) → occurrence r x i ≡ Some k → slice_get (production r) k ≡ Some (name_of x)
occurrence-names r x i k e = by (r.list && is_some i) e
  where
    by : (b : Bool) → (if b then None else indexed i (places_from 0 (name_of x) (production r))) ≡ Some k → slice_get (production r) k ≡ Some (name_of x)
    by true e = absurd (none-some k e)
    by false e =
        let (n, f) = indexed-in i (places_from 0 (name_of x) (production r)) k e in
        let z : k - 0 ≡ k = omega arith in
        ap (slice_get (production r)) (sym z) ∙ (places-named 0 (name_of x) (production r) n k f).1

-- the symbol that can stand there is that of the name
pub occurrence-stands : (r : RuleItem) (x : Name) (i : Option ℤ) (k s : ℕ) → occurrence r x i ≡ Some k → CanStandAt r k s → name_of x ≡ s
occurrence-stands r x i zero s e stands = sym (same_Some (left_of r) (name_of x) (occurrence-names r x i zero e)) ∙ stands
occurrence-stands r x i (suc k) s e stands = by r.list refl (occurrence-names r x i (suc k) e)
  where
    by : (b : Bool) → r.list ≡ b → slice_get (if b then [] else right_of r) k ≡ Some (name_of x) → name_of x ≡ s
    by true l f = absurd (none-some (name_of x) f)
    by false l f = let h : slice_get (right_of r) k ≡ Some s = rw l at stands in same_Some (name_of x) s (sym f ∙ h)
