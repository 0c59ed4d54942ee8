-- What tests of bytes say.
use Rattle.std.proofs.Common.{◌≡◌, ◌≢◌, ℕ, ◌<◌, ◌≤◌, Bool, true, false, true≢false, if◌then◌else◌, ◌==◌, List, [], ◌∷◌, length, refl, sym, ap, ◌∙◌, arith}
use Rattle.std.proofs.lemmas.Bool.Decides.{Decides-eqb, not_from_Decides, nat_tests}

pub same : {a b : ℕ} → (a == b) ≡ true → a ≡ b
same {a} {b} test = (Decides-eqb a b).0 test

pub differ : {a b : ℕ} → (a == b) ≡ false → a ≢ b
differ {a} {b} test = not_from_Decides (a == b) (Decides-eqb a b) test

-- a test of emptiness
pub some_of : (empty : Bool) (digits front : List ℕ) → empty ≡ (length digits == 0) → empty ≡ false → digits ≡ front → 0 < length front
some_of empty digits front test is same_digits = omega (arith, differ (sym test ∙ is), ap length same_digits)

pub above : (n most : ℕ) → (n ≤ most → ⊥) → most < n
above n most none = grind arith

pub nonempty_of : (empty : Bool) (text : List ℕ) → empty ≡ (length text == 0) → empty ≡ false → text ≢ []
nonempty_of empty text test is none = differ (sym test ∙ is) (ap length none)

empty_by : (text : List ℕ) → length text ≡ 0 → text ≡ []
empty_by [] none = refl
empty_by (b ∷ text) none = absurd (omega (arith, none))

pub empty_of : (empty : Bool) (text : List ℕ) → empty ≡ (length text == 0) → empty ≡ true → text ≡ []
empty_of empty text test is = empty_by text (same (sym test ∙ is))

pub unequal : (a b : ℕ) → a ≢ b → (a == b) ≡ false
unequal a b other = grind (arith, nat_tests)

-- a test that fails, and one that passes
pub skip : {X : Type 0} (b : Bool) (x y z : X) → b ≡ false → y ≡ z → (if b then x else y) ≡ z
skip true x y z is e = absurd (true≢false is)
skip false x y z is e = e

pub chosen : {X : Type 0} (b : Bool) (x y : X) → b ≡ true → (if b then x else y) ≡ x
chosen true x y is = refl
chosen false x y is = absurd (true≢false (sym is))
