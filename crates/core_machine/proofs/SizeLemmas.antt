-- No computation weighs more than the greatest so far.
use Rattle.std.specs.Prelude.{Contains}
use Rattle.std.proofs.Common.{◌≡◌, ◌≤◌, ◌<◌, ◌+◌, ◌⊎◌, ℕ, List, length, arith, ap, sym, subst, ◌∙◌, get_or, inl, inr}
use Rattle.std.proofs.lemmas.Bool.{cases_order}
use Rattle.std.proofs.lemmas.List.{get_or_default}
use Rattle.flat_grammar.specs.declared.flat.FlatRule.{FlatRule}
use Rattle.flat_grammar.specs.declared.flat.FlatComp.{FlatComp}
use Rattle.flat_grammar.specs.Expressions.{weight}

-- of the elements so far each has the fact
abbrev pub Each : {A : Type 0} → (A → Type 0) → List A → ℕ → Type 0
Each {A} P xs n = (k : ℕ) (d : A) → k < n → P (get_or xs k d)

-- one element more
pub each-more : {A : Type 0} (P : A → Type 0) (xs : List A) (n : ℕ) (x : A) → Each P xs n → n < length xs → x ≡ get_or xs n x → P x → Each P xs (n + 1)
each-more P xs n x old low at here k d h = go (cases_order k n)
  where
    go : (k ≡ n) ⊎ ((k < n) ⊎ (n < k)) → P (get_or xs k d)
    go (inl same) = subst P (at ∙ get_or_default xs n x d low ∙ ap (λ m. get_or xs m d) (sym same)) here
    go (inr (inl less)) = old k d less
    go (inr (inr more)) = absurd (omega (arith, h, more))

pub each-all : {A : Type 0} (P : A → Type 0) (xs : List A) (n : ℕ) → Each P xs n → length xs ≤ n → (x : A) → Contains xs x → P x
each-all P xs n all full x (k, h, e) = subst P e (all k x (omega (arith, h, full)))

-- the computation weighs at most so much
abbrev pub IsLight : ℕ → FlatComp → Type 0
IsLight most c = weight c.value ≤ most

-- so do all computations of the rule
abbrev pub IsLightRule : ℕ → FlatRule → Type 0
IsLightRule most r = (c : FlatComp) → Contains r.comps c → weight c.value ≤ most

pub lighter : {A : Type 0} (f : A → ℕ) (xs : List A) (n most more : ℕ) → Each (λ x. f x ≤ most) xs n → most ≤ more → Each (λ x. f x ≤ more) xs n
lighter f xs n most more all up k d h = let a = all k d h in omega (arith, a, up)

pub lighter-rules : (xs : List FlatRule) (n most more : ℕ) → Each (IsLightRule most) xs n → most ≤ more → Each (IsLightRule more) xs n
lighter-rules xs n most more all up k d h c m = let a = all k d h c m in omega (arith, a, up)
