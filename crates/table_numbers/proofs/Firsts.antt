-- Whatever is named at places, where what is named at one place is one, can be numbered by first place.
use Rattle.std.specs.Prelude.{Contains, IsTrue, AllPairs, map, nat_lt, if◌then◌else◌, get_or}
use Rattle.std.proofs.Common.{◌≡◌, ℕ, ◌<◌, ◌≤◌, ◌⊎◌, inl, inr, Bool, true, false, List, [], ◌∷◌, refl, sym, subst, ◌∙◌, arith, true≢false}
use Rattle.std.proofs.lemmas.Bool.{cases_lt, lt-ltb, le-ltb}
use Rattle.std.proofs.lemmas.List.Elements.{Contains-get_or}
use Rattle.std.proofs.lemmas.List.Kept.{AllPairs-cons}
use Rattle.lido_base.proofs.Lists.{contains-nil, contains-cons, contains-here, contains-later, map-contains, contains-map}
use Rattle.lido_symbols.specs.Numbers.{AreNumbered}

-- of two numbers the first is less, or it isn't
less-test : (x y : ℕ) → (nat_lt x y ≡ true) × (x < y) ⊎ (nat_lt x y ≡ false) × (y ≤ x)
less-test x y = elim (cases_lt x y) [
  | inl h ↦ inl (lt-ltb x y h, h)
  | inr h ↦ inr (le-ltb x y h, h)
]

module _ {K : Type 0} where
  -- ---- lists that rise by their places

  abbrev Above : ℕ → List (ℕ × K) → Type 0
  Above n [] = Unit {0}
  Above n (y ∷ ys) = (n < y.0) × Above n ys

  abbrev Rises : List (ℕ × K) → Type 0
  Rises [] = Unit {0}
  Rises (x ∷ xs) = Above x.0 xs × Rises xs

  above-more : (n m : ℕ) (xs : List (ℕ × K)) → n < m → Above m xs → Above n xs
  above-more n m [] h a = tt
  above-more n m (y ∷ ys) h a = let l = a.0 in (omega (arith, h, l), above-more n m ys h a.1)

  above-in : (n : ℕ) (xs : List (ℕ × K)) (y : ℕ × K) → Above n xs → Contains xs y → n < y.0
  above-in n [] y a m = absurd (contains-nil y m)
  above-in n (x ∷ xs) y a m = elim (contains-cons x y xs m) [
    | inl e ↦ subst (λ (z : ℕ × K). n < z.0) e a.0
    | inr k ↦ above-in n xs y a.1 k
  ]

  abbrev put : ℕ × K → List (ℕ × K) → List (ℕ × K)
  put x [] = x ∷ []
  put x (y ∷ ys) = if nat_lt x.0 y.0 then x ∷ y ∷ ys else if nat_lt y.0 x.0 then y ∷ put x ys else y ∷ ys

  abbrev sorted : List (ℕ × K) → List (ℕ × K)
  sorted [] = []
  sorted (x ∷ xs) = put x (sorted xs)

  data Put (x y : ℕ × K) (ys : List (ℕ × K)) : List (ℕ × K) → Type 0 where
    front : x.0 < y.0 → Put x y ys (x ∷ y ∷ ys)
    behind : y.0 < x.0 → Put x y ys (y ∷ put x ys)
    same : x.0 ≡ y.0 → Put x y ys (y ∷ ys)

  put-is : (x y : ℕ × K) (ys : List (ℕ × K)) → Put x y ys (put x (y ∷ ys))
  put-is x y ys = by (less-test x.0 y.0) (less-test y.0 x.0)
    where
      by : (nat_lt x.0 y.0 ≡ true) × (x.0 < y.0) ⊎ (nat_lt x.0 y.0 ≡ false) × (y.0 ≤ x.0) → (nat_lt y.0 x.0 ≡ true) × (y.0 < x.0) ⊎ (nat_lt y.0 x.0 ≡ false) × (x.0 ≤ y.0) → Put x y ys (put x (y ∷ ys))
      by (inl (e, h)) other = subst (λ (b : Bool). Put x y ys (if b then x ∷ y ∷ ys else if nat_lt y.0 x.0 then y ∷ put x ys else y ∷ ys)) (sym e) (front h)
      by (inr (e, h)) (inl (f, k)) = subst (λ (b : Bool). Put x y ys (if b then x ∷ y ∷ ys else if nat_lt y.0 x.0 then y ∷ put x ys else y ∷ ys)) (sym e)
          (subst (λ (b : Bool). Put x y ys (if b then y ∷ put x ys else y ∷ ys)) (sym f) (behind k))
      by (inr (e, h)) (inr (f, k)) = subst (λ (b : Bool). Put x y ys (if b then x ∷ y ∷ ys else if nat_lt y.0 x.0 then y ∷ put x ys else y ∷ ys)) (sym e)
          (subst (λ (b : Bool). Put x y ys (if b then y ∷ put x ys else y ∷ ys)) (sym f) (same (omega (arith, h, k))))

  put-above : (n : ℕ) (x : ℕ × K) (ys : List (ℕ × K)) → n < x.0 → Above n ys → Above n (put x ys)
  put-above n x [] h a = (h, tt)
  put-above n x (y ∷ ys) h a = by (put-above n x ys h a.1) (put x (y ∷ ys)) (put-is x y ys)
    where
      by : Above n (put x ys) → (l : List (ℕ × K)) → Put x y ys l → Above n l
      by more _ (front k) = (h, a)
      by more _ (behind k) = (a.0, more)
      by more _ (same e) = a

  put-rises : (x : ℕ × K) (ys : List (ℕ × K)) → Rises ys → Rises (put x ys)
  put-rises x [] r = (tt, tt)
  put-rises x (y ∷ ys) r = by (put-rises x ys r.1) (put x (y ∷ ys)) (put-is x y ys)
    where
      by : Rises (put x ys) → (l : List (ℕ × K)) → Put x y ys l → Rises l
      by more _ (front k) = ((k, above-more x.0 y.0 ys k r.0), r)
      by more _ (behind k) = (put-above y.0 x ys k r.0, more)
      by more _ (same e) = r

  sorted-rises : (xs : List (ℕ × K)) → Rises (sorted xs)
  sorted-rises [] = tt
  sorted-rises (x ∷ xs) = put-rises x (sorted xs) (sorted-rises xs)

  put-in : (x z : ℕ × K) (ys : List (ℕ × K)) → Contains (put x ys) z → (x ≡ z) ⊎ Contains ys z
  put-in x z [] m = elim (contains-cons x z [] m) [ inl e ↦ inl e | inr k ↦ absurd (contains-nil z k) ]
  put-in x z (y ∷ ys) m = by (put-in x z ys) (put x (y ∷ ys)) (put-is x y ys) m
    where
      by : (Contains (put x ys) z → (x ≡ z) ⊎ Contains ys z) → (l : List (ℕ × K)) → Put x y ys l → Contains l z → (x ≡ z) ⊎ Contains (y ∷ ys) z
      by more _ (front k) m = contains-cons x z (y ∷ ys) m
      by more _ (behind k) m = elim (contains-cons y z (put x ys) m) [
        | inl e ↦ inr (subst (Contains (y ∷ ys)) e (contains-here y ys))
        | inr there ↦ (elim (more there) [ inl e ↦ inl e | inr k ↦ inr (contains-later y z ys k) ])
      ]
      by more _ (same e) m = inr m

  -- one of the same place is there
  abbrev HasPlace : List (ℕ × K) → ℕ → Type 0
  HasPlace xs n = (y : ℕ × K) × Contains xs y × (y.0 ≡ n)

  put-has : (x : ℕ × K) (ys : List (ℕ × K)) → HasPlace (put x ys) x.0
  put-has x [] = (x, contains-here x [], refl)
  put-has x (y ∷ ys) = by (put-has x ys) (put x (y ∷ ys)) (put-is x y ys)
    where
      by : HasPlace (put x ys) x.0 → (l : List (ℕ × K)) → Put x y ys l → HasPlace l x.0
      by more _ (front k) = (x, contains-here x (y ∷ ys), refl)
      by more _ (behind k) = let (z, m, e) = more in (z, contains-later y z (put x ys) m, e)
      by more _ (same e) = (y, contains-here y ys, sym e)

  put-keeps : (x z : ℕ × K) (ys : List (ℕ × K)) → Contains ys z → Contains (put x ys) z
  put-keeps x z [] m = absurd (contains-nil z m)
  put-keeps x z (y ∷ ys) m = by (put-keeps x z ys) (put x (y ∷ ys)) (put-is x y ys)
    where
      by : (Contains ys z → Contains (put x ys) z) → (l : List (ℕ × K)) → Put x y ys l → Contains l z
      by more _ (front k) = contains-later x z (y ∷ ys) m
      by more _ (behind k) = elim (contains-cons y z ys m) [
        | inl e ↦ subst (Contains (y ∷ put x ys)) e (contains-here y (put x ys))
        | inr there ↦ contains-later y z (put x ys) (more there)
      ]
      by more _ (same e) = m

  sorted-in : (xs : List (ℕ × K)) (z : ℕ × K) → Contains (sorted xs) z → Contains xs z
  sorted-in [] z m = m
  sorted-in (x ∷ xs) z m = elim (put-in x z (sorted xs) m) [
    | inl e ↦ subst (Contains (x ∷ xs)) e (contains-here x xs)
    | inr k ↦ contains-later x z xs (sorted-in xs z k)
  ]

  sorted-has : (xs : List (ℕ × K)) (z : ℕ × K) → Contains xs z → HasPlace (sorted xs) z.0
  sorted-has [] z m = absurd (contains-nil z m)
  sorted-has (x ∷ xs) z m = elim (contains-cons x z xs m) [
    | inl e ↦ subst (λ (w : ℕ × K). HasPlace (put x (sorted xs)) w.0) e (put-has x (sorted xs))
    | inr k ↦ (let (y, there, e) = sorted-has xs z k in (y, put-keeps x y (sorted xs) there, e))
  ]

module _ {K : Type 0} (is_same : K → K → Bool) (same-self : (k : K) → IsTrue (is_same k k)) (same-back : (j k : K) → IsTrue (is_same j k) → IsTrue (is_same k j))
    (same-on : (j k l : K) → IsTrue (is_same j k) → IsTrue (is_same k l) → IsTrue (is_same j l))
    (uses : List (ℕ × K)) (one : (x y : ℕ × K) → Contains uses x → Contains uses y → x.0 ≡ y.0 → IsTrue (is_same x.1 y.1)) where
  -- ---- the first of those that are the same as this one

  abbrev better : K → ℕ × K → ℕ × K → ℕ × K
  better k z y = if is_same z.1 k then (if nat_lt z.0 y.0 then z else y) else y

  abbrev best : K → List (ℕ × K) → ℕ × K → ℕ × K
  best k [] y = y
  best k (z ∷ zs) y = best k zs (better k z y)

  data Better (k : K) (z y : ℕ × K) : ℕ × K → Type 0 where
    that : IsTrue (is_same z.1 k) → z.0 < y.0 → Better k z y z
    this : (IsTrue (is_same z.1 k) → y.0 ≤ z.0) → Better k z y y

  better-is : (k : K) (z y : ℕ × K) → Better k z y (better k z y)
  better-is k z y = by (is_same z.1 k) refl
    where
      inner : IsTrue (is_same z.1 k) → Better k z y (if nat_lt z.0 y.0 then z else y)
      inner t = elim (less-test z.0 y.0) [
        | inl (e, h) ↦ subst (λ (b : Bool). Better k z y (if b then z else y)) (sym e) (that t h)
        | inr (e, h) ↦ subst (λ (b : Bool). Better k z y (if b then z else y)) (sym e) (this (λ s. h))
      ]

      by : (b : Bool) → is_same z.1 k ≡ b → Better k z y (better k z y)
      by true e = subst (λ (b : Bool). Better k z y (if b then (if nat_lt z.0 y.0 then z else y) else y)) (sym e) (inner e)
      by false e = subst (λ (b : Bool). Better k z y (if b then (if nat_lt z.0 y.0 then z else y) else y)) (sym e) (this (λ t. absurd (true≢false (sym t ∙ e))))

  better-le : (k : K) (z y w : ℕ × K) → Better k z y w → w.0 ≤ y.0
  better-le k z y _ (that t h) = omega (arith, h)
  better-le k z y _ (this h) = omega arith

  best-le : (k : K) (zs : List (ℕ × K)) (y : ℕ × K) → (best k zs y).0 ≤ y.0
  best-le k [] y = omega arith
  best-le k (z ∷ zs) y =
      let h = best-le k zs (better k z y) in
      let g = better-le k z y (better k z y) (better-is k z y) in
      omega (arith, h, g)

  best-least : (k : K) (zs : List (ℕ × K)) (y x : ℕ × K) → Contains zs x → IsTrue (is_same x.1 k) → (best k zs y).0 ≤ x.0
  best-least k [] y x m t = absurd (contains-nil x m)
  best-least k (z ∷ zs) y x m t = elim (contains-cons z x zs m) [
    | inl e ↦ (let h = best-le k zs (better k z y) in
        let g : (better k z y).0 ≤ x.0 = subst (λ (w : ℕ × K). (better k z y).0 ≤ w.0) e (here (better k z y) (better-is k z y) (subst (λ (w : ℕ × K). IsTrue (is_same w.1 k)) (sym e) t)) in
        omega (arith, h, g))
    | inr there ↦ best-least k zs (better k z y) x there t
  ]
    where
      here : (w : ℕ × K) → Better k z y w → IsTrue (is_same z.1 k) → w.0 ≤ z.0
      here _ (that s h) is = omega arith
      here _ (this h) is = h is

  best-in : (k : K) (zs : List (ℕ × K)) (y : ℕ × K) → (best k zs y ≡ y) ⊎ Contains zs (best k zs y)
  best-in k [] y = inl refl
  best-in k (z ∷ zs) y = by (better k z y) (better-is k z y) (best-in k zs (better k z y))
    where
      by : (w : ℕ × K) → Better k z y w → (best k zs w ≡ w) ⊎ Contains zs (best k zs w) → (best k zs w ≡ y) ⊎ Contains (z ∷ zs) (best k zs w)
      by _ (that t h) (inl e) = inr (subst (Contains (z ∷ zs)) (sym e) (contains-here z zs))
      by _ (this h) (inl e) = inl e
      by w b (inr m) = inr (contains-later z (best k zs w) zs m)

  best-same : (k : K) (zs : List (ℕ × K)) (y : ℕ × K) → IsTrue (is_same y.1 k) → IsTrue (is_same (best k zs y).1 k)
  best-same k [] y t = t
  best-same k (z ∷ zs) y t = best-same k zs (better k z y) (by (better k z y) (better-is k z y))
    where
      by : (w : ℕ × K) → Better k z y w → IsTrue (is_same w.1 k)
      by _ (that s h) = s
      by _ (this h) = t

  abbrev first_of : ℕ × K → ℕ × K
  first_of x = best x.1 uses x

  -- it is a use, and none of the same stands in front
  record IsFirst (x : ℕ × K) : Type 0 where
    there : Contains uses x
    least : (z : ℕ × K) → Contains uses z → IsTrue (is_same z.1 x.1) → x.0 ≤ z.0

  first-is : (x : ℕ × K) → Contains uses x → IsFirst (first_of x)
  first-is x m = record {
    there = elim (best-in x.1 uses x) [ inl e ↦ subst (Contains uses) (sym e) m | inr k ↦ k ];
    least = λ z k t. best-least x.1 uses x z k (same-on z.1 (first_of x).1 x.1 t (best-same x.1 uses x (same-self x.1)));
  }

  abbrev firsts : List (ℕ × K)
  firsts = sorted (map first_of uses)

  firsts-are : (x : ℕ × K) → Contains firsts x → IsFirst x
  firsts-are x m =
      let (u, there, e) = contains-map first_of uses x (sorted-in (map first_of uses) x m) in
      subst IsFirst e (first-is u there)

  abbrev key_of : ℕ × K → K
  key_of x = x.1

  abbrev pub keys : List K
  keys = map key_of firsts

  all-named : (at : ℕ) (k : K) → Contains uses (at, k) → (l : K) × Contains keys l × IsTrue (is_same k l)
  all-named at k m =
      let f = first_of (at, k) in
      let is = first-is (at, k) m in
      let (y, there, e) = sorted-has (map first_of uses) f (map-contains first_of uses (at, k) m) in
      let its = firsts-are y there in (
        y.1,
        map-contains key_of firsts y there,
        same-on k f.1 y.1 (same-back f.1 k (best-same k uses (at, k) (same-self k))) (one f y is.there its.there (sym e)),
      )

  abbrev Precedes : K → K → Type 0
  Precedes k l = (at : ℕ) (j : K) → Contains uses (at, j) → IsTrue (is_same j l) → (first : ℕ) × (i : K) × Contains uses (first, i) × IsTrue (is_same i k) × (first < at)

  precedes : (x y : ℕ × K) → IsFirst x → IsFirst y → x.0 < y.0 → Precedes x.1 y.1
  precedes x y a b h at j m t = let g = b.least (at, j) m t in (x.0, x.1, a.there, same-self x.1, omega (arith, h, g))

  in-order : (xs : List (ℕ × K)) → Rises xs → ((x : ℕ × K) → Contains xs x → IsFirst x) → AllPairs Precedes (map key_of xs)
  in-order [] r each = λ i j d less within. absurd (omega (arith, within))
  in-order (x ∷ xs) r each = AllPairs-cons Precedes x.1 (map key_of xs)
      (λ k d within. (let (y, m, e) = contains-map key_of xs (get_or (map key_of xs) k d) (Contains-get_or (map key_of xs) k d within) in
      subst (Precedes x.1) e (precedes x y (each x (contains-here x xs)) (each y (contains-later x y xs m)) (above-in x.0 xs y r.0 m))))
      (in-order xs r.1 (λ y m. each y (contains-later x y xs m)))

  pub key-first : (k : K) → Contains keys k → (first : ℕ) × Contains uses (first, k) × ((at : ℕ) (other : K) → Contains uses (at, other) → IsTrue (is_same other k) → first ≤ at)
  key-first k m =
      let (x, there, e) = contains-map key_of firsts k m in
      let is = firsts-are x there in
      (x.0, subst (λ z. Contains uses (x.0, z)) e is.there, λ at other o t. is.least (at, other) o (subst (λ z. IsTrue (is_same other z)) (sym e) t))

  pub are-numbered : AreNumbered is_same uses keys
  are-numbered = record {
    named = λ i d within. (let (first, there, least) = key-first (get_or keys i d) (Contains-get_or keys i d within) in (first, there));
    all = all-named;
    by_place = in-order firsts (sorted-rises (map first_of uses)) firsts-are;
  }
