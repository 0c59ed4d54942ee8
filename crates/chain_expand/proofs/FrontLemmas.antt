-- The last place in front of a child.
use Rattle.std.specs.Prelude.{filter, slice_get, nat_lt, cond, if◌then◌else◌}
use Rattle.std.proofs.Common.{◌≡◌, ℕ, zero, suc, ◌+◌, ◌≤◌, Bool, true, false, List, [], ◌∷◌, ◌++◌, length, map, take, Option, Some, refl, sym, ap, ◌∙◌, arith}
use Rattle.std.proofs.lemmas.Option.{none-some, same_Some}
use Rattle.std.proofs.lemmas.Bool.{lt-ltb, le-ltb}
use Rattle.std.proofs.lemmas.List.{append-nil}
use Rattle.lido_symbols.specs.Numbers.{enumerated}
use Rattle.rule_tables.specs.Shares.{last_of}

module _ (test : ℕ → Bool) where
  -- the places of those that pass, counted from n
  abbrev pub places_from : ℕ → List ℕ → List ℕ
  places_from n xs = map (λ (x : ℕ × ℕ). x.0) (filter (λ (x : ℕ × ℕ). test x.1) (enumerated n xs))

  pub places-more : (n k x : ℕ) (xs : List ℕ) → slice_get xs k ≡ Some x → places_from n (take (suc k) xs) ≡ places_from n (take k xs) ++ (if test x then (n + k) ∷ [] else [])
  places-more n k x [] e = absurd (none-some _ e)
  places-more n zero x (y ∷ xs) e = by (test y) ∙ ap (λ z. if test z then (n + 0) ∷ [] else []) (same_Some _ _ e)
    where
      by : (b : Bool) → map (λ (x : ℕ × ℕ). x.0) (cond b ((n, y) ∷ []) []) ≡ (if b then (n + 0) ∷ [] else [])
      by true = let h : n ≡ n + 0 = omega arith in ap (λ m. m ∷ []) h
      by false = refl
  places-more n (suc k) x (y ∷ xs) e = by (test y) (places-more (suc n) k x xs e ∙ ap (λ m. places_from (suc n) (take k xs) ++ (if test x then m ∷ [] else [])) (omega arith))
    where
      by : (b : Bool) → places_from (suc n) (take (suc k) xs) ≡ places_from (suc n) (take k xs) ++ (if test x then (n + suc k) ∷ [] else [])
          → map (λ (x : ℕ × ℕ). x.0) (cond b ((n, y) ∷ filter (λ (x : ℕ × ℕ). test x.1) (enumerated (suc n) (take (suc k) xs))) (filter (λ (x : ℕ × ℕ). test x.1) (enumerated (suc n) (take (suc k) xs))))
          ≡ map (λ (x : ℕ × ℕ). x.0) (cond b ((n, y) ∷ filter (λ (x : ℕ × ℕ). test x.1) (enumerated (suc n) (take k xs))) (filter (λ (x : ℕ × ℕ). test x.1) (enumerated (suc n) (take k xs)))) ++ (if test x then (n + suc k) ∷ [] else [])
      by true later = ap (λ l. n ∷ l) later
      by false later = later

  -- none of the places from n on is below n or less
  places-none : (n m : ℕ) (xs : List ℕ) → m ≤ n → filter (λ i. nat_lt i m) (places_from n xs) ≡ []
  places-none n m [] h = refl
  places-none n m (y ∷ xs) h = by (test y) (places-none (suc n) m xs (omega (arith, h)))
    where
      by : (b : Bool) → filter (λ i. nat_lt i m) (places_from (suc n) xs) ≡ []
          → filter (λ i. nat_lt i m) (map (λ (x : ℕ × ℕ). x.0) (cond b ((n, y) ∷ filter (λ (x : ℕ × ℕ). test x.1) (enumerated (suc n) xs)) (filter (λ (x : ℕ × ℕ). test x.1) (enumerated (suc n) xs)))) ≡ []
      by true later = ap (λ b. cond b (n ∷ filter (λ i. nat_lt i m) (places_from (suc n) xs)) (filter (λ i. nat_lt i m) (places_from (suc n) xs))) (le-ltb n m h) ∙ later
      by false later = later

  pub places-before : (n k m : ℕ) (xs : List ℕ) → m ≡ n + k → filter (λ i. nat_lt i m) (places_from n xs) ≡ places_from n (take k xs)
  places-before n zero m xs e = places-none n m xs (omega (arith, e))
  places-before n (suc k) m [] e = refl
  places-before n (suc k) m (y ∷ xs) e = by (test y) (places-before (suc n) k m xs (omega (arith, e)))
    where
      less : nat_lt n m ≡ true
      less = lt-ltb n m (omega (arith, e))

      by : (b : Bool) → filter (λ i. nat_lt i m) (places_from (suc n) xs) ≡ places_from (suc n) (take k xs)
          → filter (λ i. nat_lt i m) (map (λ (x : ℕ × ℕ). x.0) (cond b ((n, y) ∷ filter (λ (x : ℕ × ℕ). test x.1) (enumerated (suc n) xs)) (filter (λ (x : ℕ × ℕ). test x.1) (enumerated (suc n) xs))))
          ≡ map (λ (x : ℕ × ℕ). x.0) (cond b ((n, y) ∷ filter (λ (x : ℕ × ℕ). test x.1) (enumerated (suc n) (take k xs))) (filter (λ (x : ℕ × ℕ). test x.1) (enumerated (suc n) (take k xs))))
      by true later = ap (λ b. cond b (n ∷ filter (λ i. nat_lt i m) (places_from (suc n) xs)) (filter (λ i. nat_lt i m) (places_from (suc n) xs))) less ∙ ap (λ l. n ∷ l) later
      by false later = later

pub last-push : (xs : List ℕ) (m : ℕ) → last_of (xs ++ m ∷ []) ≡ Some m
last-push [] m = refl
last-push (x ∷ []) m = refl
last-push (x ∷ y ∷ xs) m = last-push (y ∷ xs) m

last-with : (b : Bool) (xs : List ℕ) (m : ℕ) → last_of (xs ++ (if b then m ∷ [] else [])) ≡ (if b then Some m else last_of xs)
last-with true xs m = last-push xs m
last-with false xs m = ap last_of (append-nil xs)

-- one child more
pub last-more : (test : ℕ → Bool) (k x : ℕ) (xs : List ℕ) (last : Option ℕ) → slice_get xs k ≡ Some x → last ≡ last_of (places_from test 1 (take k xs))
    → (if test x then Some (k + 1) else last) ≡ last_of (places_from test 1 (take (k + 1) xs))
last-more test k x xs last at is =
    ap (λ o. if test x then Some (k + 1) else o) is
    ∙ (let h : k + 1 ≡ 1 + k = omega arith in ap (λ m. if test x then Some m else last_of (places_from test 1 (take k xs))) h)
    ∙ sym (last-with (test x) (places_from test 1 (take k xs)) (1 + k)) ∙ ap last_of (sym (places-more test 1 k x xs at))
    ∙ (let h : suc k ≡ k + 1 = omega arith in ap (λ m. last_of (places_from test 1 (take m xs))) h)

-- the last item of a list with one item more
pub push-last : {X : Type 0} (xs : List X) (v : X) (j : ℕ) → j ≡ length xs → slice_get (xs ++ v ∷ []) j ≡ Some v
push-last [] v zero e = refl
push-last [] v (suc j) e = absurd (omega (arith, e))
push-last (x ∷ xs) v zero e = absurd (omega (arith, e))
push-last (x ∷ xs) v (suc j) e = push-last xs v j (omega (arith, e))
