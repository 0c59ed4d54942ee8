-- Assignments that are written as tables.
use Rattle.std.specs.Prelude.{Bool, true, false, IsTrue, IsSome, ◌&&◌, if◌then◌else◌, nat_eq, option_map, find}
use Rattle.std.specs.List.{AllByRecursion}
use Rattle.std.proofs.Common.{◌≡◌, ℕ, List, [], ◌∷◌, Option, Some, None, refl, ap, subst, eqb-true}
use Rattle.lido_base.specs.Plain.{Plain}
use Rattle.lido_base.proofs.TreeLemmas.{both}
use Rattle.lido_syntax.specs.Assignment.{Slot, Attribute, Front, Behind}
use Rattle.trials_of_syntax.specs.Writing.{Row, is_slot, assigned}

same_slot : (x y : Slot) → IsTrue (is_slot x y) → x ≡ y
same_slot (Attribute a) (Attribute b) h = ap Attribute (eqb-true a b h)
same_slot (Front c) (Front d) h = ap Front (eqb-true c d h)
same_slot (Behind c) (Behind d) h = ap Behind (eqb-true c d h)
same_slot (Attribute a) (Front d) h = cc
same_slot (Attribute a) (Behind d) h = cc
same_slot (Front c) (Attribute b) h = cc
same_slot (Front c) (Behind d) h = cc
same_slot (Behind c) (Attribute b) h = cc
same_slot (Behind c) (Front d) h = cc

-- what holds of each row holds of each slot that has a value
pub each_row : (P : ℕ → Slot → Type 0) (rows : List Row) → AllByRecursion (λ (row : Row). P row.0 row.1) rows → (n : ℕ) (slot : Slot) → IsSome (assigned rows n slot) → P n slot
each_row P [] all n slot h = cc
each_row P (row ∷ rows) all n slot h = go (nat_eq row.0 n && is_slot row.1 slot) refl (each_row P rows all.1 n slot) h
  where
    go : (b : Bool) → (nat_eq row.0 n && is_slot row.1 slot) ≡ b → (IsSome (assigned rows n slot) → P n slot)
        → IsSome (option_map (λ (row : Row). row.2) (if b then Some row else find (λ (row : Row). nat_eq row.0 n && is_slot row.1 slot) rows)) → P n slot
    go true e later h = let parts = both (nat_eq row.0 n) (is_slot row.1 slot) e in
        subst (λ m. P m slot) (eqb-true row.0 n parts.0) (subst (λ s. P row.0 s) (same_slot row.1 slot parts.1) all.0)
    go false e later h = later h

-- what holds of each row's value holds of each value
pub each_value : (P : Plain → Type 0) (rows : List Row) → AllByRecursion (λ (row : Row). P row.2) rows → (n : ℕ) (slot : Slot) (v : Plain) → assigned rows n slot ≡ Some v → P v
each_value P [] all n slot v h = cc
each_value P (row ∷ rows) all n slot v h = go (nat_eq row.0 n && is_slot row.1 slot) (each_value P rows all.1 n slot v) h
  where
    go : (b : Bool) → (assigned rows n slot ≡ Some v → P v) → option_map (λ (row : Row). row.2) (if b then Some row else find (λ (row : Row). nat_eq row.0 n && is_slot row.1 slot) rows) ≡ Some v → P v
    go true later h = let same : row.2 ≡ v = cc in subst P same all.0
    go false later h = later h

pub none_from : {X : Type 0} (o : Option X) → ¬ IsSome o → o ≡ None
none_from None h = refl
none_from (Some x) h = absurd (h refl)
