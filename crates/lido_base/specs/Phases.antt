-- Phases that give a value or a fault, and what several of them give one after another.
use Rattle.std.specs.Prelude.{◌≡◌, ◌⊎◌, Result, Ok, Err, IfOk, IfErr}
use mathlib.Core.Logic.{inl, inr}
use mathlib.Core.Path.{ap, sym, ◌∙◌}

-- the phase gives this, and nothing else
pub record IsThe {A F : Type 0} (p : Result A F → Type 0) (r : Result A F) : Type 0 where
  pub is : p r
  pub only : (s : Result A F) → p s → s ≡ r

-- a phase with its faults seen as those of the whole
abbrev pub Wrapped : {A F S : Type 0} → (F → S) → (Result A F → Type 0) → Result A S → Type 0
Wrapped wrap p (Ok a) = p (Ok a)
Wrapped {F = F} wrap p (Err s) = (f : F) × p (Err f) × (s ≡ wrap f)

-- first p, and with its value q: the first fault ends it
abbrev pub Then : {A B S : Type 0} → (Result A S → Type 0) → (A → Result B S → Type 0) → Result B S → Type 0
Then {A} {B} {S} p q r = ((a : A) × p (Ok a) × q a r) ⊎ ((s : S) × p (Err s) × (r ≡ Err s))

-- the result is what the phase gives and nothing else, unless memory ran out
abbrev pub Gives : {X A F : Type 0} → (X → A) → (Result A F → Type 0) → F → Result X F → Type 0
Gives view p memory (Ok x) = IsThe p (Ok (view x))
Gives view p memory (Err e) = (e ≡ memory) ⊎ IsThe p (Err e)

-- the value of which this is true, or the refusal where there is none
unfoldable pub OneOf : {A F : Type 0} → (A → Type 0) → F → Result A F → Type 0
OneOf P refusal (Ok a) = P a
OneOf {A} P refusal (Err e) = (e ≡ refusal) × ((a : A) → P a → ⊥)

one_only : {A F : Type 0} (P : A → Type 0) (refusal : F) (a : A) → P a → ((b : A) → P b → b ≡ a) → (s : Result A F) → OneOf P refusal s → s ≡ Ok a
unfolding OneOf
one_only P refusal a is only (Ok b) given = ap (λ x. Ok x) (only b given)
one_only P refusal a is only (Err e) given = absurd (given.1 a is)

-- the only value of which it is true is what such a phase gives
pub the_one : {A F : Type 0} (P : A → Type 0) (refusal : F) (a : A) → P a → ((b : A) → P b → b ≡ a) → IsThe (OneOf P refusal) (Ok a)
unfolding OneOf
the_one P refusal a is only = record { is = is; only = one_only P refusal a is only }

none_only : {A F : Type 0} (P : A → Type 0) (refusal e : F) → e ≡ refusal → ((a : A) → P a → ⊥) → (s : Result A F) → OneOf P refusal s → s ≡ Err e
unfolding OneOf
none_only P refusal e is nothing (Ok b) given = absurd (nothing b given)
none_only P refusal e is nothing (Err f) given = ap (λ x. Err x) (given.0 ∙ sym is)

-- where it is true of none, such a phase gives the refusal
pub the_none : {A F : Type 0} (P : A → Type 0) (refusal e : F) → e ≡ refusal → ((a : A) → P a → ⊥) → IsThe (OneOf P refusal) (Err e)
unfolding OneOf
the_none P refusal e is nothing = record { is = (is, nothing); only = none_only P refusal e is nothing }

gives_fault : {X A F : Type 0} (view : X → A) (P : A → Type 0) (refusal memory e : F) → (e ≡ memory) ⊎ (e ≡ refusal) → (e ≡ refusal → (a : A) → P a → ⊥)
    → Gives view (OneOf P refusal) memory (Err e)
gives_fault view P refusal memory e (inl no_memory) missed = inl no_memory
gives_fault view P refusal memory e (inr refused) missed = inr (the_none P refusal e refused (missed refused))

-- what is found, is the only one, and is refused only where there is none, is what such a phase gives
pub gives_one : {X A F : Type 0} (view : X → A) (P : A → Type 0) (refusal memory : F) → ((e : F) → (e ≡ memory) ⊎ (e ≡ refusal)) → (r : Result X F)
    → IfOk r (λ x. P (view x)) → IfOk r (λ x. (b : A) → P b → b ≡ view x) → IfErr r (λ e. e ≡ refusal → (a : A) → P a → ⊥) → Gives view (OneOf P refusal) memory r
gives_one view P refusal memory cases (Ok x) found only missed = the_one P refusal (view x) found only
gives_one view P refusal memory cases (Err e) found only missed = gives_fault view P refusal memory e (cases e) missed
