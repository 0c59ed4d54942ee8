-- Lists in order that are made of others.
use Rattle.std.specs.Prelude.{Contains, AllPairs, flat_map, filter_map, slice_get}
use Rattle.std.specs.List.{cons_option}
use Rattle.std.proofs.Common.{◌≡◌, ℕ, suc, ◌+◌, ◌<◌, ◌≤◌, inl, inr, List, [], ◌∷◌, ◌++◌, Option, Some, None, refl, arith}
use Rattle.std.proofs.lemmas.List.Kept.{AllPairs-cons}
use Rattle.std.proofs.lemmas.List.Elements.{Contains-append_cases}
use Rattle.lido_base.proofs.Lists.{contains-here, contains-later, contains-flat, contains-place}
use Rattle.lido_symbols.specs.Numbers.{enumerated}
use Rattle.need_graphs.proofs.ListLemmas.{enumerated-place, contains-filtered}
use Rattle.need_graphs.proofs.PlaceLemmas.{all-of}

module _ {Y : Type 0} (R : Y → Y → Type 0) where
  abbrev pub Pairs : List Y → Type 0
  Pairs [] = Unit {0}
  Pairs (x ∷ xs) = ((y : Y) → Contains xs y → R x y) × Pairs xs

  pub pairs-all : (xs : List Y) → Pairs xs → AllPairs R xs
  pairs-all [] p = λ i j d a b. absurd (omega (arith, b))
  pairs-all (x ∷ xs) p = AllPairs-cons R x xs (all-of (R x) xs p.0) (pairs-all xs p.1)

  pub pairs-append : (xs ys : List Y) → Pairs xs → Pairs ys → ((x y : Y) → Contains xs x → Contains ys y → R x y) → Pairs (xs ++ ys)
  pairs-append [] ys p q h = q
  pairs-append (x ∷ xs) ys p q h = (
    (λ y m. elim (Contains-append_cases xs ys y m) [ inl k ↦ p.0 y k | inr k ↦ h x y (contains-here x xs) k ]),
    pairs-append xs ys p.1 q (λ a b m n. h a b (contains-later x a xs m) n),
  )

  pub numbered-pairs : {X : Type 0} (g : ℕ × X → List Y) → ((k : ℕ) (x : X) → Pairs (g (k, x)))
      → ((k l : ℕ) (x y : X) (a b : Y) → k < l → Contains (g (k, x)) a → Contains (g (l, y)) b → R a b) → (n : ℕ) (xs : List X) → Pairs (flat_map g (enumerated n xs))
  numbered-pairs g own across n [] = tt
  numbered-pairs g own across n (x ∷ xs) = pairs-append (g (n, x)) (flat_map g (enumerated (suc n) xs)) (own n x) (numbered-pairs g own across (suc n) xs) (λ a b m k.
      let (z, among, here) = contains-flat g (enumerated (suc n) xs) b k in
      let p = enumerated-place (suc n) z.0 z.1 xs among in
      let later : n < z.0 = omega (arith, p.1) in
      across n z.0 x z.1 a b later m here)

  -- what is made of items in order is in order
  pub made-pairs : {X : Type 0} (h : X → Option Y) (xs : List X)
      → ((i j : ℕ) (x y : X) (a b : Y) → i < j → slice_get xs i ≡ Some x → slice_get xs j ≡ Some y → h x ≡ Some a → h y ≡ Some b → R a b) → Pairs (filter_map h xs)
  made-pairs h [] across = tt
  made-pairs {X} h (x ∷ xs) across = by (h x) refl (made-pairs h xs (λ i j u v a b less e f p q. across (suc i) (suc j) u v a b (omega (arith, less)) e f p q))
    where
      by : (o : Option Y) → h x ≡ o → Pairs (filter_map h xs) → Pairs (cons_option o (filter_map h xs))
      by None e later = later
      by (Some a) e later = (
        (λ b m. let (y, among, made) = contains-filtered h xs b m in
            let (j, at) = contains-place xs y among in
            across 0 (suc j) x y a b (omega arith) refl at e made),
        later,
      )
