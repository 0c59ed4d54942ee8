-- The first numbers of a range that pass a test, found one by one.
use Rattle.std.specs.Prelude.{Bool, true, false, cond, filter, map}
use Rattle.std.specs.List.{range_with_len}
use Rattle.std.proofs.Common.{◌≡◌, ℕ, zero, suc, ◌+◌, ◌-◌, ◌<◌, ◌≤◌, List, [], ◌∷◌, ◌++◌, length, take, min, append-nil, length-append, refl, ap, sym, ◌∙◌, arith}
use Rattle.std.proofs.lemmas.List.{take-append-le, length-map, length-take, take_all}
use Rattle.std.proofs.lemmas.List.Elements.{filter-append}

range_push : (a n : ℕ) → range_with_len a (suc n) ≡ range_with_len a n ++ (a + n) ∷ []
range_push a zero = let e : a ≡ a + 0 = omega arith in ap (λ z. z ∷ []) e
range_push a (suc n) = ap (λ rest. a ∷ rest) (range_push (a + 1) n ∙ (let e : a + 1 + n ≡ a + suc n = omega arith in ap (λ z. range_with_len (a + 1) n ++ z ∷ []) e))

module _ (p : ℕ → Bool) (k n : ℕ) (xs : List ℕ) (positive : 1 ≤ n) (so_far : xs ≡ take k (filter p (range_with_len 1 (n - 1)))) where
  one_more : range_with_len 1 (n + 1 - 1) ≡ range_with_len 1 (n - 1) ++ n ∷ []
  one_more = let e : n + 1 - 1 ≡ suc (n - 1) = omega arith in let f : 1 + (n - 1) ≡ n = omega arith in
      ap (range_with_len 1) e ∙ range_push 1 (n - 1) ∙ ap (λ z. range_with_len 1 (n - 1) ++ z ∷ []) f

  split : (b : Bool) → p n ≡ b → filter p (range_with_len 1 (n + 1 - 1)) ≡ filter p (range_with_len 1 (n - 1)) ++ cond b (n ∷ []) []
  split b e = ap (filter p) one_more ∙ filter-append p (range_with_len 1 (n - 1)) (n ∷ []) ∙ ap (λ z. filter p (range_with_len 1 (n - 1)) ++ cond z (n ∷ []) []) e

  pub found : length xs < k → p n ≡ true → xs ++ n ∷ [] ≡ take k (filter p (range_with_len 1 (n + 1 - 1)))
  found few e = sym (ap (take k) (split true e) ∙ take_all k (before_n ++ n ∷ []) (omega (arith, short, length-append before_n (n ∷ []))) ∙ ap (λ z. z ++ n ∷ []) (sym whole))
    where
      before_n : List ℕ
      before_n = filter p (range_with_len 1 (n - 1))

      short : length before_n < k
      short = shorter k (length before_n) (length xs) (ap length so_far ∙ length-take k before_n) few
        where
          shorter : (k m x : ℕ) → x ≡ min k m → x < k → m < k
          shorter k m x e h = grind arith

      whole : xs ≡ before_n
      whole = so_far ∙ take_all k before_n (omega (arith, short))

  pub skipped : p n ≡ false → xs ≡ take k (filter p (range_with_len 1 (n + 1 - 1)))
  skipped e = so_far ∙ ap (take k) (sym (split false e ∙ append-nil (filter p (range_with_len 1 (n - 1)))))

  pub full : k ≤ length xs → xs ≡ take k (filter p (range_with_len 1 (n + 1 - 1)))
  full many = so_far ∙ sym (ap (take k) (split (p n) refl) ∙ take-append-le k before_n (cond (p n) (n ∷ []) []) enough)
    where
      before_n : List ℕ
      before_n = filter p (range_with_len 1 (n - 1))

      enough : k ≤ length before_n
      enough = longer k (length before_n) (length xs) (ap length so_far ∙ length-take k before_n) many
        where
          longer : (k m x : ℕ) → x ≡ min k m → k ≤ x → k ≤ m
          longer k m x e h = grind arith

-- numbers that are the first 63 of some are few
pub few_taken : {X : Type 0} (f : X → ℕ) (xs : List X) (ys : List ℕ) → map f xs ≡ take 63 ys → length xs < 256
few_taken f xs ys e = small (length xs) (length ys) (sym (length-map xs f) ∙ ap length e ∙ length-take 63 ys)
  where
    small : (n m : ℕ) → n ≡ min 63 m → n < 256
    small n m e = grind arith
