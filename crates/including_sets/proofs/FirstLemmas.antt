-- The first of each of those that are the same, by their places.
use Rattle.std.specs.Prelude.{Contains, AllPairs, drop, ◌||◌}
use Rattle.std.specs.Bool.{Decides}
use Rattle.std.specs.List.{list_any}
use Rattle.std.proofs.Common.{◌≡◌, ◌∙◌, ℕ, suc, ◌+◌, ◌<◌, ◌≤◌, ◌⊎◌, inl, inr, Bool, true, false, if◌then◌else◌, List, [], ◌∷◌, ◌++◌, length, get_or, map, refl, sym, ap, subst, arith, append_assoc, drop-cons, add-one}
use Rattle.std.proofs.lemmas.List.Elements.{Contains-append_left, Contains-push, Contains-push_cases}
use Rattle.lido_base.proofs.Lists.{contains-nil, contains-cons, contains-here, contains-later, contains-map, map-contains, contains-place}
use Rattle.rule_tables.proofs.NeedsLemmas.{any-found}
use Rattle.need_graphs.proofs.OrderLemmas.{Pairs}
use Rattle.need_graphs.proofs.PlaceLemmas.{pair-at}
use Rattle.including_sets.specs.Firsts.{firsts}

pub all-pairs : {X : Type 0} (R : X → X → Type 0) (xs : List X) → AllPairs R xs → Pairs R xs
all-pairs R [] h = tt
all-pairs R (x ∷ xs) h = (
  (λ y m. let (k, at) = contains-place xs y m in pair-at R (x ∷ xs) 0 (suc k) x y h refl at (omega arith)),
  all-pairs R xs (λ i j d less below. h (suc i) (suc j) d (omega (arith, less)) (omega (arith, below))),
)

pub pairs-weaker : {X : Type 0} (R S : X → X → Type 0) (xs : List X) → ((x y : X) → Contains xs x → Contains xs y → R x y → S x y) → Pairs R xs → Pairs S xs
pairs-weaker R S [] f h = tt
pairs-weaker R S (x ∷ xs) f h = (
  (λ y m. f x y (contains-here x xs) (contains-later x y xs m) (h.0 y m)),
  pairs-weaker R S xs (λ y z m n. f y z (contains-later x y xs m) (contains-later x z xs n)) h.1,
)

pub pairs-of-map : {X Y : Type 0} (f : X → Y) (R : Y → Y → Type 0) (xs : List X) → Pairs R (map f xs) → Pairs (λ x y. R (f x) (f y)) xs
pairs-of-map f R [] h = tt
pairs-of-map f R (x ∷ xs) h = ((λ y m. h.0 (f y) (map-contains f xs y m)), pairs-of-map f R xs h.1)

pub map-of-pairs : {X Y : Type 0} (f : X → Y) (R : Y → Y → Type 0) (xs : List X) → Pairs (λ x y. R (f x) (f y)) xs → Pairs R (map f xs)
map-of-pairs f R [] h = tt
map-of-pairs f R (x ∷ xs) h = (
  (λ y m. let (z, among, e) = contains-map f xs y m in subst (R (f x)) e (h.0 z among)),
  map-of-pairs f R xs h.1,
)

no-test : {X : Type 0} (test : X → Bool) (xs : List X) (x : X) → list_any test xs ≡ false → Contains xs x → test x ≡ true → ⊥
no-test test [] x none m h = contains-nil x m
no-test {X} test (y ∷ xs) x none m h = by (test y) refl none (λ n k. no-test test xs x n k h)
  where
    by : (b : Bool) → test y ≡ b → (b || list_any test xs) ≡ false → (list_any test xs ≡ false → Contains xs x → ⊥) → ⊥
    by true e n more = cc
    by false e n more = elim (contains-cons y x xs m) [
      | inl same ↦ (let wrong : true ≡ false = sym h ∙ ap test (sym same) ∙ e in cc)
      | inr k ↦ more n k
    ]

module _ {X C : Type 0} (same : X → X → Bool) (code : X → C) (decides : (x y : X) → Decides (same x y) (code x ≡ code y)) where
  pub first-of : (others xs : List X) (x : X) → Contains (firsts same others xs) x → Contains xs x
  first-of others [] x m = absurd (contains-nil x m)
  first-of others (l ∷ ls) x m = by (list_any (λ y. same y l) others) m (λ known k. first-of known ls x k)
    where
      by : (b : Bool) → Contains (if b then firsts same others ls else l ∷ firsts same (others ++ l ∷ []) ls) x → ((known : List X) → Contains (firsts same known ls) x → Contains ls x) → Contains (l ∷ ls) x
      by true k more = contains-later l x ls (more others k)
      by false k more = elim (contains-cons l x (firsts same (others ++ l ∷ []) ls) k) [
        | inl e ↦ subst (λ z. Contains (l ∷ ls) z) e (contains-here l ls)
        | inr n ↦ contains-later l x ls (more (others ++ l ∷ []) n)
      ]

  -- it is the same as none of the others
  apart : (others xs : List X) (x y : X) → Contains (firsts same others xs) x → Contains others y → code y ≡ code x → ⊥
  apart others [] x y m k e = contains-nil x m
  apart others (l ∷ ls) x y m k e = by (list_any (λ y. same y l) others) refl m (λ known n o. apart known ls x y n o e)
    where
      by : (b : Bool) → list_any (λ y. same y l) others ≡ b → Contains (if b then firsts same others ls else l ∷ firsts same (others ++ l ∷ []) ls) x
          → ((known : List X) → Contains (firsts same known ls) x → Contains known y → ⊥) → ⊥
      by true h n more = more others n k
      by false h n more = elim (contains-cons l x (firsts same (others ++ l ∷ []) ls) n) [
        | inl s ↦ no-test (λ y. same y l) others y h k ((decides y l).1 (e ∙ ap code (sym s)))
        | inr o ↦ more (others ++ l ∷ []) o (Contains-append_left others (l ∷ []) y k)
      ]

  abbrev IsCovered : X → List X → List X → Type 0
  IsCovered x others kept = ((y : X) × Contains others y × (code y ≡ code x)) ⊎ ((y : X) × Contains kept y × (code y ≡ code x))

  -- each is the same as one of them, or as one of the others
  covered : (others xs : List X) (x : X) → Contains xs x → IsCovered x others (firsts same others xs)
  covered others [] x m = absurd (contains-nil x m)
  covered others (l ∷ ls) x m = by (list_any (λ y. same y l) others) refl (contains-cons l x ls m) (λ known k. covered known ls x k)
    where
      by : (b : Bool) → list_any (λ y. same y l) others ≡ b → (l ≡ x) ⊎ Contains ls x → ((known : List X) → Contains ls x → IsCovered x known (firsts same known ls))
          → IsCovered x others (if b then firsts same others ls else l ∷ firsts same (others ++ l ∷ []) ls)
      by true h (inl e) more = let (f, among, is) = any-found (λ y. same y l) others h in inl (f, among, (decides f l).0 is ∙ ap code e)
      by true h (inr k) more = more others k
      by false h (inl e) more = inr (l, contains-here l (firsts same (others ++ l ∷ []) ls), ap code e)
      by false h (inr k) more = elim (more (others ++ l ∷ []) k) [
        | inl p ↦ (let (f, among, is) = p in elim (Contains-push_cases others l f among) [
          | inl o ↦ inl (f, o, is)
          | inr s ↦ inr (l, contains-here l (firsts same (others ++ l ∷ []) ls), ap code s ∙ is)
        ])
        | inr p ↦ (let (y, among, is) = p in inr (y, contains-later l y (firsts same (others ++ l ∷ []) ls) among, is))
      ]

  pub all-covered : (xs : List X) (x : X) → Contains xs x → (y : X) × Contains (firsts same [] xs) y × (code y ≡ code x)
  all-covered xs x m = elim (covered [] xs x m) [ inl p ↦ absurd (contains-nil p.0 p.1) | inr p ↦ p ]

  module _ (place : X → ℕ) where
    abbrev IsBefore : X → X → Type 0
    IsBefore x y = place x < place y

    -- none of those that are the same stands in front of it
    pub least : (others xs : List X) → Pairs IsBefore xs → (x z : X) → Contains (firsts same others xs) x → Contains xs z → code z ≡ code x → place x ≤ place z
    least others [] sorted x z m k e = absurd (contains-nil x m)
    least others (l ∷ ls) sorted x z m k e = by (list_any (λ y. same y l) others) refl m (contains-cons l z ls k) (λ known n o. least known ls sorted.1 x z n o e)
      where
        by : (b : Bool) → list_any (λ y. same y l) others ≡ b → Contains (if b then firsts same others ls else l ∷ firsts same (others ++ l ∷ []) ls) x → (l ≡ z) ⊎ Contains ls z
            → ((known : List X) → Contains (firsts same known ls) x → Contains ls z → place x ≤ place z) → place x ≤ place z
        by true h n (inl s) more = let (f, among, is) = any-found (λ y. same y l) others h in absurd (apart others ls x f n among ((decides f l).0 is ∙ ap code s ∙ e))
        by true h n (inr o) more = more others n o
        by false h n (inl s) more = elim (contains-cons l x (firsts same (others ++ l ∷ []) ls) n) [
          | inl t ↦ (let p = ap place (sym t ∙ s) in omega (arith, p))
          | inr o ↦ absurd (apart (others ++ l ∷ []) ls x l o (Contains-push others l) (ap code s ∙ e))
        ]
        by false h n (inr i) more = elim (contains-cons l x (firsts same (others ++ l ∷ []) ls) n) [
          | inl t ↦ (let p = ap place t in let q = sorted.0 z i in omega (arith, p, q))
          | inr o ↦ more (others ++ l ∷ []) o i
        ]

    pub in-order : (others xs : List X) → Pairs IsBefore xs → Pairs IsBefore (firsts same others xs)
    in-order others [] sorted = tt
    in-order others (l ∷ ls) sorted = by (list_any (λ y. same y l) others) (λ known. in-order known ls sorted.1)
      where
        by : (b : Bool) → ((known : List X) → Pairs IsBefore (firsts same known ls)) → Pairs IsBefore (if b then firsts same others ls else l ∷ firsts same (others ++ l ∷ []) ls)
        by true more = more others
        by false more = ((λ y m. sorted.0 y (first-of (others ++ l ∷ []) ls y m)), more (others ++ l ∷ []))

  pub fewer : (others xs : List X) → length (firsts same others xs) ≤ length xs
  fewer others [] = omega arith
  fewer others (l ∷ ls) = by (list_any (λ y. same y l) others) (λ known. fewer known ls)
    where
      by : (b : Bool) → ((known : List X) → length (firsts same known ls) ≤ length ls) → length (if b then firsts same others ls else l ∷ firsts same (others ++ l ∷ []) ls) ≤ suc (length ls)
      by true more = let f = more others in omega (arith, f)
      by false more = let f = more (others ++ l ∷ []) in omega (arith, f)

-- one more
module _ {X : Type 0} (same : X → X → Bool) (xs : List X) (i : ℕ) (d : X) (within : i < length xs) where
  pub first-next : (known new all : List X) (b : Bool) → known ++ firsts same known (drop i xs) ≡ all → list_any (λ y. same y (get_or xs i d)) known ≡ b
      → new ≡ (if b then known else known ++ get_or xs i d ∷ []) → new ++ firsts same new (drop (i + 1) xs) ≡ all
  first-next known new all b before test made = by b test made
    where
      x : X
      x = get_or xs i d

      rest : List X
      rest = drop (i + 1) xs

      here : drop i xs ≡ get_or xs i d ∷ drop (i + 1) xs
      here = rw (add-one, drop-cons xs i d) refl

      start : known ++ (if list_any (λ y. same y (get_or xs i d)) known then firsts same known (drop (i + 1) xs) else get_or xs i d ∷ firsts same (known ++ get_or xs i d ∷ []) (drop (i + 1) xs)) ≡ all
      start = sym (ap (λ l. known ++ firsts same known l) here) ∙ before

      by : (b : Bool) → list_any (λ y. same y (get_or xs i d)) known ≡ b → new ≡ (if b then known else known ++ get_or xs i d ∷ []) → new ++ firsts same new (drop (i + 1) xs) ≡ all
      by true t e = ap (λ l. l ++ firsts same l (drop (i + 1) xs)) e
          ∙ sym (ap (λ (c : Bool). known ++ (if c then firsts same known (drop (i + 1) xs) else get_or xs i d ∷ firsts same (known ++ get_or xs i d ∷ []) (drop (i + 1) xs))) t) ∙ start
      by false t e = ap (λ l. l ++ firsts same l (drop (i + 1) xs)) e ∙ append_assoc known (get_or xs i d ∷ []) (firsts same (known ++ get_or xs i d ∷ []) (drop (i + 1) xs))
          ∙ sym (ap (λ (c : Bool). known ++ (if c then firsts same known (drop (i + 1) xs) else get_or xs i d ∷ firsts same (known ++ get_or xs i d ∷ []) (drop (i + 1) xs))) t) ∙ start
