-- There is one way to number the sets by their first places.
use Rattle.std.specs.Prelude.{IsTrue, Contains, All, ◌↔◌}
use Rattle.std.specs.Bool.{Decides}
use Rattle.std.proofs.Common.{◌≡◌, ℕ, ◌<◌, ◌≤◌, ◌⊎◌, inl, inr, Bool, List, [], ◌∷◌, map, refl, sym, subst, arith}
use Rattle.std.proofs.lemmas.List.Elements.{All-contains}
use Rattle.lido_base.proofs.Lists.{contains-nil, contains-cons, contains-here, contains-later, contains-map, map-contains}
use Rattle.lido_symbols.specs.Numbers.{AreNumbered}
use Rattle.including_sets.specs.Firsts.{firsts}
use Rattle.need_graphs.proofs.OrderLemmas.{Pairs, pairs-all}
use Rattle.need_graphs.proofs.PlaceLemmas.{all-of}
use Rattle.including_sets.proofs.FirstLemmas.{all-pairs, pairs-weaker, map-of-pairs, first-of, all-covered, least, in-order}

-- lists with the same items in order are the same
module _ {X : Type 0} (R : X → X → Type 0) (one_way : (x y : X) → R x y → R y x → ⊥) where
  among : (x y : X) (xs : List X) → R x y → Contains (x ∷ xs) y → Contains xs y
  among x y xs h m = elim (contains-cons x y xs m) [
    | inl e ↦ (let back = subst (λ z. R x z) (sym e) h in absurd (one_way x x back back))
    | inr k ↦ k
  ]

  pub same-items : (xs ys : List X) → Pairs R xs → Pairs R ys → ((x : X) → Contains xs x → Contains ys x) → ((x : X) → Contains ys x → Contains xs x) → xs ≡ ys
  same-items [] [] p q to back = refl
  same-items [] (y ∷ ys) p q to back = absurd (contains-nil y (back y (contains-here y ys)))
  same-items (x ∷ xs) [] p q to back = absurd (contains-nil x (to x (contains-here x xs)))
  same-items (x ∷ xs) (y ∷ ys) p q to back =
      let head : x ≡ y = by (contains-cons y x ys (to x (contains-here x xs))) (contains-cons x y xs (back y (contains-here y ys))) in
      let rest : xs ≡ ys = same-items xs ys p.1 q.1
      (λ z m. among y z ys (subst (λ w. R w z) head (p.0 z m)) (to z (contains-later x z xs m)))
      (λ z m. among x z xs (subst (λ w. R w z) (sym head) (q.0 z m)) (back z (contains-later y z ys m))) in
      λ i. head i ∷ rest i
    where
      by : (y ≡ x) ⊎ Contains ys x → (x ≡ y) ⊎ Contains xs y → x ≡ y
      by (inl e) s = sym e
      by (inr k) (inl e) = e
      by (inr k) (inr l) = absurd (one_way x y (p.0 y l) (q.0 x k))

module _ {K : Type 0} (same : K → K → Bool) (itself : (k : K) → IsTrue (same k k)) (flips : (j k : K) → IsTrue (same j k) → IsTrue (same k j)) (uses : List (ℕ × K)) where
  abbrev IsFirstAt : K → ℕ → Type 0
  IsFirstAt k first = Contains uses (first, k) × ((at : ℕ) (other : K) → Contains uses (at, other) → IsTrue (same other k) → first ≤ at)

  abbrev pub IsFirst : K → Type 0
  IsFirst k = (first : ℕ) × Contains uses (first, k) × ((at : ℕ) (other : K) → Contains uses (at, other) → IsTrue (same other k) → first ≤ at)

  abbrev IsEarlier : K → K → Type 0
  IsEarlier k l = (at : ℕ) (j : K) → Contains uses (at, j) → IsTrue (same j l) → (first : ℕ) × (i : K) × Contains uses (first, i) × IsTrue (same i k) × (first < at)

  -- by their first places
  abbrev IsBelow : K → K → Type 0
  IsBelow k l = (a : ℕ) × (b : ℕ) × IsFirstAt k a × IsFirstAt l b × (a < b)

  one-way : (k l : K) → IsBelow k l → IsBelow l k → ⊥
  one-way k l (a, b, fa, fb, less) (c, d, gc, gd, more) =
      let p = gd.1 a k fa.0 (itself k) in
      let q = fb.1 c l gc.0 (itself l) in
      omega (arith, less, more, p, q)

  below-of : (k l : K) → IsFirst k → IsFirst l → IsEarlier k l → IsBelow k l
  below-of k l (a, m, f) (b, n, g) earlier =
      let (first, i, there, is, less) = earlier b l n (itself l) in
      let p = f first i there is in
      (a, b, (m, f), (n, g), (omega (arith, less, p)))

  ascending : (keys : List K) → AreNumbered same uses keys → All IsFirst keys → Pairs IsBelow keys
  ascending keys numbered first = pairs-weaker IsEarlier IsBelow keys
      (λ k l m n. below-of k l (All-contains IsFirst keys k first m) (All-contains IsFirst keys l first n)) (all-pairs IsEarlier keys numbered.by_place)

  module _ (one : (at : ℕ) (j k : K) → Contains uses (at, j) → Contains uses (at, k) → j ≡ k) where
    within : (keys others : List K) → All IsFirst keys → AreNumbered same uses others → All IsFirst others → (k : K) → Contains keys k → Contains others k
    within keys others firsts numbered others_first k m =
        let (a, there, f) = All-contains IsFirst keys k firsts m in
        let (l, ml, is) = numbered.all a k there in
        let (b, here, g) = All-contains IsFirst others l others_first ml in
        let p = g a k there is in
        let q = f b l here (flips k l is) in
        let at : a ≡ b = omega (arith, p, q) in
        subst (Contains others) (one b l k here (subst (λ n. Contains uses (n, k)) at there)) ml

    pub one-numbering : (keys others : List K) → AreNumbered same uses keys → All IsFirst keys → AreNumbered same uses others → All IsFirst others → keys ≡ others
    one-numbering keys others a f b g = same-items IsBelow one-way keys others (ascending keys a f) (ascending others b g) (within keys others f b g) (within others keys g a f)

  -- those of the first ones are such a numbering
  module _ {X C : Type 0} (test : X → X → Bool) (code : X → C) (decides : (x y : X) → Decides (test x y) (code x ≡ code y)) (place : X → ℕ) (key : X → K) (xs : List X)
      (sorted : Pairs (λ (x y : X). place x < place y) xs) (from_uses : (at : ℕ) (k : K) → Contains uses (at, k) → (x : X) × Contains xs x × (place x ≡ at) × (key x ≡ k))
      (to_uses : (x : X) → Contains xs x → Contains uses (place x, key x)) (told : (x y : X) → Contains xs x → Contains xs y → (code x ≡ code y) ↔ IsTrue (same (key x) (key y))) where
    abbrev kept : List X
    kept = firsts test [] xs

    of : (x : X) → Contains kept x → Contains xs x
    of x m = first-of test code decides [] xs x m

    low : (x : X) → Contains kept x → (at : ℕ) (j : K) → Contains uses (at, j) → IsTrue (same j (key x)) → place x ≤ at
    low x m at j there is =
        let (z, mz, p, e) = from_uses at j there in
        let q = least test code decides place [] xs sorted x z m mz ((told z x mz (of x m)).1 (subst (λ w. IsTrue (same w (key x))) (sym e) is)) in
        omega (arith, p, q)

    pub kept-first : All IsFirst (map key kept)
    kept-first = all-of IsFirst (map key kept) (λ k m.
        let (x, mx, e) = contains-map key kept k m in
        subst IsFirst e (place x, to_uses x (of x mx), low x mx))

    pub kept-numbered : AreNumbered same uses (map key kept)
    kept-numbered = record {
      named = all-of (λ k. (at : ℕ) × Contains uses (at, k)) (map key kept) (λ k m.
          let (x, mx, e) = contains-map key kept k m in
          subst (λ w. (at : ℕ) × Contains uses (at, w)) e (place x, to_uses x (of x mx)));
      all = λ at k there.
          let (z, mz, p, e) = from_uses at k there in
          let (y, my, is) = all-covered test code decides xs z mz in
          (key y, map-contains key kept y my, flips (key y) k (subst (λ w. IsTrue (same (key y) w)) e ((told y z (of y my) mz).0 is)));
      by_place = pairs-all IsEarlier (map key kept) (map-of-pairs key IsEarlier kept
          (pairs-weaker (λ (x y : X). place x < place y) (λ (x y : X). IsEarlier (key x) (key y)) kept
          (λ x y mx my less at j there is. let p = low y my at j there is in (place x, key x, to_uses x (of x mx), itself (key x), (omega (arith, less, p))))
          (in-order test code decides place [] xs sorted)));
    }
