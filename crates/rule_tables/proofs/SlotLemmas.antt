-- Attributes by their numbers.
use Rattle.std.specs.Prelude.{◌≡◌, ℕ, zero, suc, ◌+◌, Bool, true, false, nat_eq, if◌then◌else◌, List, [], ◌∷◌, ◌++◌, Some, slice_get, zip, Contains, refl}
use Rattle.std.proofs.Common.{ap, sym, subst, ◌∙◌, arith, ◌⊎◌, inl, inr, eqb-true, eq-eqb}
use Rattle.std.proofs.lemmas.Option.{none-some}
use Rattle.flat_grammar.proofs.Lists.{contains-cons, contains-nil, held}
use Rattle.lido_symbols.specs.Numbers.{place_in, enumerated}
use Rattle.rule_tables.specs.Slots.{Slot, Written, Inc, Con, Front, Behind, Msg, Out, is_same_slot}

-- what passes the test of its own place stands at its first place
pub slice_get-place : {X : Type 0} (same : X → X → Bool) → ((x y : X) → same x y ≡ true → x ≡ y) → ((x : X) → same x x ≡ true)
    → (x : X) (xs : List X) → Contains xs x → slice_get xs (place_in (same x) xs) ≡ Some x
slice_get-place same eq self x [] m = absurd (contains-nil x m)
slice_get-place same eq self x (y ∷ ys) m = go (same x y) refl (contains-cons y x ys m) (slice_get-place same eq self x ys)
  where
    go : (b : Bool) → same x y ≡ b → (y ≡ x) ⊎ Contains ys x → (Contains ys x → slice_get ys (place_in (same x) ys) ≡ Some x)
        → slice_get (y ∷ ys) (if b then 0 else suc (place_in (same x) ys)) ≡ Some x
    go true e h later = ap Some (sym (eq x y e))
    go false e (inl h) later = let wrong : same x y ≡ true = subst (λ z. same x z ≡ true) (sym h) (self x) in cc
    go false e (inr k) later = later k

same-eq : (a b : ℕ) → nat_eq a b ≡ true → a ≡ b
same-eq a b e = eqb-true a b e

self-eq : (a : ℕ) → nat_eq a a ≡ true
self-eq a = eq-eqb a a refl

pub same_slot-eq : (s u : Slot) → is_same_slot s u ≡ true → s ≡ u
same_slot-eq (Written a) (Written b) e = ap Written (same-eq a b e)
same_slot-eq (Written a) (Inc b) e = cc
same_slot-eq (Written a) (Con b) e = cc
same_slot-eq (Written a) (Front b) e = cc
same_slot-eq (Written a) (Behind b) e = cc
same_slot-eq (Written a) Out e = cc
same_slot-eq (Written a) (Msg b) e = cc
same_slot-eq (Inc a) (Written b) e = cc
same_slot-eq (Inc a) (Inc b) e = ap Inc (same-eq a b e)
same_slot-eq (Inc a) (Con b) e = cc
same_slot-eq (Inc a) (Front b) e = cc
same_slot-eq (Inc a) (Behind b) e = cc
same_slot-eq (Inc a) Out e = cc
same_slot-eq (Inc a) (Msg b) e = cc
same_slot-eq (Con a) (Written b) e = cc
same_slot-eq (Con a) (Inc b) e = cc
same_slot-eq (Con a) (Con b) e = ap Con (same-eq a b e)
same_slot-eq (Con a) (Front b) e = cc
same_slot-eq (Con a) (Behind b) e = cc
same_slot-eq (Con a) Out e = cc
same_slot-eq (Con a) (Msg b) e = cc
same_slot-eq (Front a) (Written b) e = cc
same_slot-eq (Front a) (Inc b) e = cc
same_slot-eq (Front a) (Con b) e = cc
same_slot-eq (Front a) (Front b) e = ap Front (same-eq a b e)
same_slot-eq (Front a) (Behind b) e = cc
same_slot-eq (Front a) Out e = cc
same_slot-eq (Front a) (Msg b) e = cc
same_slot-eq (Behind a) (Written b) e = cc
same_slot-eq (Behind a) (Inc b) e = cc
same_slot-eq (Behind a) (Con b) e = cc
same_slot-eq (Behind a) (Front b) e = cc
same_slot-eq (Behind a) (Behind b) e = ap Behind (same-eq a b e)
same_slot-eq (Behind a) Out e = cc
same_slot-eq (Behind a) (Msg b) e = cc
same_slot-eq (Msg a) (Written b) e = cc
same_slot-eq (Msg a) (Inc b) e = cc
same_slot-eq (Msg a) (Con b) e = cc
same_slot-eq (Msg a) (Front b) e = cc
same_slot-eq (Msg a) (Behind b) e = cc
same_slot-eq (Msg a) (Msg b) e = ap Msg (same-eq a b e)
same_slot-eq (Msg a) Out e = cc
same_slot-eq Out (Written b) e = cc
same_slot-eq Out (Inc b) e = cc
same_slot-eq Out (Con b) e = cc
same_slot-eq Out (Front b) e = cc
same_slot-eq Out (Behind b) e = cc
same_slot-eq Out (Msg b) e = cc
same_slot-eq Out Out e = refl

pub same_slot-self : (s : Slot) → is_same_slot s s ≡ true
same_slot-self (Written a) = self-eq a
same_slot-self (Inc a) = self-eq a
same_slot-self (Con a) = self-eq a
same_slot-self (Front a) = self-eq a
same_slot-self (Behind a) = self-eq a
same_slot-self (Msg a) = self-eq a
same_slot-self Out = refl

pub slot-at_number : (s : Slot) (row : List Slot) → Contains row s → slice_get row (place_in (is_same_slot s) row) ≡ Some s
slot-at_number s row m = slice_get-place is_same_slot same_slot-eq same_slot-self s row m

pub number-at_place : (x : ℕ) (xs : List ℕ) → Contains xs x → slice_get xs (place_in (nat_eq x) xs) ≡ Some x
number-at_place x xs m = slice_get-place nat_eq same-eq self-eq x xs m

pub enumerated-at : {X : Type 0} (k i : ℕ) (x : X) (xs : List X) → slice_get xs i ≡ Some x → slice_get (enumerated k xs) i ≡ Some (k + i, x)
enumerated-at k i x [] e = absurd (none-some _ e)
enumerated-at {X} k zero x (y ∷ xs) e = let h : k ≡ k + 0 = omega arith in λ j. Some (h j, held e j)
enumerated-at {X} k (suc i) x (y ∷ xs) e = let h : suc k + i ≡ k + suc i = omega arith in enumerated-at (suc k) i x xs e ∙ (λ j. Some (h j, x))

pub zip-at : {X Y : Type 0} (xs : List X) (ys : List Y) (i : ℕ) (x : X) (y : Y) → slice_get (zip xs ys) i ≡ Some (x, y) → (slice_get xs i ≡ Some x) × (slice_get ys i ≡ Some y)
zip-at [] ys i x y e = absurd (none-some _ e)
zip-at (a ∷ xs) [] i x y e = absurd (none-some _ e)
zip-at (a ∷ xs) (b ∷ ys) zero x y e = let h = held e in (ap (λ (z : _). Some z.0) h, ap (λ (z : _). Some z.1) h)
zip-at (a ∷ xs) (b ∷ ys) (suc i) x y e = zip-at xs ys i x y e

pub front-at : {X : Type 0} (xs ys : List X) (i : ℕ) (x : X) → slice_get xs i ≡ Some x → slice_get (xs ++ ys) i ≡ Some x
front-at [] ys i x e = absurd (none-some _ e)
front-at (y ∷ xs) ys zero x e = e
front-at (y ∷ xs) ys (suc i) x e = front-at xs ys i x e
