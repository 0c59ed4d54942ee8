-- The sizes of subtrees, summed up by a walk from the last node to the first.
use Rattle.std.specs.Prelude.{Contains, Bool, true, false, cond, nat_eq, nat_le, ◌||◌, AllPairs, sum, map, filter}
use Rattle.std.proofs.Common.{◌≡◌, ℕ, zero, suc, ◌+◌, ◌<◌, ◌≤◌, ◌⊎◌, inl, inr, List, [], ◌∷◌, length, get_or, set, take, Some, refl, ap, sym, subst, ◌∙◌, arith}
use Rattle.std.proofs.Math.Seq.{take-set-lt, take-suc, take-length}
use Rattle.std.proofs.lemmas.Bool.{cases_lt, leb-true, le-leb, lt-ltb, ne_eqb, eq-eqb}
use Rattle.std.proofs.lemmas.Bool.Decides.{eqb_tells}
use Rattle.std.proofs.lemmas.List.{get_or-set_same, get_or-set_other, get_or-take, length-take, length-replicate}
use Rattle.std.proofs.lemmas.List.Kept.{AllPairs-from_increasing}
use Rattle.std.proofs.lemmas.List.Sums.{sum_by-append, sum_by-set}
use Rattle.std.proofs.lemmas.List.Folds.{sum_by-replicate}
use Rattle.std.specs.Prelude.{replicate}
use Rattle.lido_base.specs.Tree.{Tree, IsTree, children, contains, parent_of}
use Rattle.lido_base.proofs.EquationsLemmas.{contains-later}
use Rattle.lido_base.proofs.TreeLemmas.{children_behind, from_children-step, parent_before}
use Rattle.subtree_split.specs.SplitNodes.{subtree_size}

-- each number is below all later ones
abbrev Rises : List ℕ → Type 0
Rises [] = Unit {0}
Rises (x ∷ xs) = ((y : ℕ) → Contains xs y → x < y) × Rises xs

rises_from : (xs : List ℕ) → AllPairs (λ x y. x < y) xs → Rises xs
rises_from [] pairs = tt
rises_from (x ∷ xs) pairs = (λ y m. let h = pairs 0 (suc m.0) y (omega arith) (let in_range = m.1 in omega arith) in subst (λ z. x < z) m.2 h, rises_from xs (λ i j d a b. pairs (suc i) (suc j) d (omega arith) (omega arith)))

-- numbers that are all above k do not have it
none_of : (k : ℕ) (xs : List ℕ) → ((y : ℕ) → Contains xs y → k < y) → contains k xs ≡ false
none_of k [] above = refl
none_of k (x ∷ xs) above = let h = above x (0, (omega arith), refl) in rw (ne_eqb k x (λ e. omega arith)) (none_of k xs (λ y m. above y (contains-later x y xs m)))

neither : (a b : Bool) → (a || b) ≡ false → (a ≡ false) × (b ≡ false)
neither true b e = cc
neither false b e = (refl, e)

-- from k on, or from behind it, is the same at another number
same_from : (k x : ℕ) → (k ≡ x → ⊥) → nat_le k x ≡ nat_le (suc k) x
same_from k x other = go (cases_lt k x)
  where
    below : (a b : ℕ) → b < a → nat_le a b ≡ false
    below a b h = opposite (nat_le a b) refl
      where
        opposite : (t : Bool) → nat_le a b ≡ t → nat_le a b ≡ false
        opposite true e = absurd (let l = leb-true a b e in omega arith)
        opposite false e = e

    go : (k < x) ⊎ (x ≤ k) → nat_le k x ≡ nat_le (suc k) x
    go (inl h) = le-leb k x (omega arith) ∙ sym (le-leb (suc k) x (omega arith))
    go (inr h) = let l = apart x k h (λ e. other (sym e)) in below k x l ∙ sym (below (suc k) x (omega arith))
      where
        apart : (a b : ℕ) → a ≤ b → (a ≡ b → ⊥) → a < b
        apart a b h other = grind arith

same_filter : (k : ℕ) (xs : List ℕ) → contains k xs ≡ false → filter (nat_le k) xs ≡ filter (nat_le (suc k)) xs
same_filter k [] h = refl
same_filter k (x ∷ xs) h = let parts = neither (nat_eq k x) (contains k xs) h in
    ap (λ b. cond b (x ∷ filter (nat_le k) xs) (filter (nat_le k) xs)) (same_from k x (λ e. false_true (sym parts.0 ∙ eq-eqb k x e)))
    ∙ ap (λ rest. cond (nat_le (suc k) x) (x ∷ rest) rest) (same_filter k xs parts.1)
  where
    false_true : false ≡ true → ⊥
    false_true e = cc

sum-cons : (x : ℕ) (xs : List ℕ) → sum (x ∷ xs) ≡ x + sum xs
sum-cons x xs = let e = sum_by-append (λ y. y) (x ∷ []) xs in omega arith

-- no number is at most the one before it
not_behind : (k : ℕ) → nat_le (suc k) k ≡ false
not_behind k = opposite (nat_le (suc k) k) refl
  where
    opposite : (t : Bool) → nat_le (suc k) k ≡ t → nat_le (suc k) k ≡ false
    opposite true e = absurd (let l = leb-true (suc k) k e in omega arith)
    opposite false e = e

second : (a b : Bool) → a ≡ false → (a || b) ≡ true → b ≡ true
second a b e h = rw e at h

all_pass : (p : ℕ → Bool) (xs : List ℕ) → ((x : ℕ) → Contains xs x → p x ≡ true) → filter p xs ≡ xs
all_pass p [] pass = refl
all_pass p (x ∷ xs) pass = rw (pass x (0, (omega arith), refl)) (ap (λ rest. x ∷ rest) (all_pass p xs (λ y m. pass y (contains-later x y xs m))))

none_passes : (p : ℕ → Bool) (xs : List ℕ) → ((x : ℕ) → Contains xs x → p x ≡ false) → filter p xs ≡ []
none_passes p [] fail = refl
none_passes p (x ∷ xs) fail = rw (fail x (0, (omega arith), refl)) (none_passes p xs (λ y m. fail y (contains-later x y xs m)))

map_same : (f g : ℕ → ℕ) (xs : List ℕ) → ((c : ℕ) → Contains xs c → f c ≡ g c) → map f xs ≡ map g xs
map_same f g [] same = refl
map_same f g (x ∷ xs) same = rw (same x (0, (omega arith), refl)) (ap (λ rest. g x ∷ rest) (map_same f g xs (λ c m. same c (contains-later x c xs m))))

module _ (f : ℕ → ℕ) where
  -- what the numbers from k on give
  abbrev pub from_on : ℕ → List ℕ → ℕ
  from_on k xs = sum (map f (filter (nat_le k) xs))

  -- k gives its part once
  sum_from : (k : ℕ) (xs : List ℕ) → Rises xs → contains k xs ≡ true → from_on k xs ≡ f k + from_on (suc k) xs
  sum_from k [] rises h = cc
  sum_from k (x ∷ xs) rises h = go (eqb_tells k x) (sum_from k xs rises.1)
    where
      at : (x : ℕ) → x ≡ k → ((y : ℕ) → Contains xs y → x < y) → from_on k (x ∷ xs) ≡ f k + from_on (suc k) (x ∷ xs)
      at x e above = subst (λ z. from_on k (z ∷ xs) ≡ f k + from_on (suc k) (z ∷ xs)) (sym e)
          (rw (le-leb k k (omega arith), not_behind k) (sum-cons (f k) (map f (filter (nat_le k) xs)) ∙ ap (λ rest. f k + sum (map f rest)) (same_filter k xs (none_of k xs (λ y m. let h = above y m in omega arith)))))

      later : (b : Bool) → from_on k xs ≡ f k + from_on (suc k) xs
          → sum (map f (cond b (x ∷ filter (nat_le k) xs) (filter (nat_le k) xs))) ≡ f k + sum (map f (cond b (x ∷ filter (nat_le (suc k)) xs) (filter (nat_le (suc k)) xs)))
      later true e = omega (arith, e, sum-cons (f x) (map f (filter (nat_le k) xs)), sum-cons (f x) (map f (filter (nat_le (suc k)) xs)))
      later false e = e

      go : ((nat_eq k x ≡ true) × (k ≡ x)) ⊎ ((nat_eq k x ≡ false) × (k ≡ x → ⊥)) → (contains k xs ≡ true → from_on k xs ≡ f k + from_on (suc k) xs) → from_on k (x ∷ xs) ≡ f k + from_on (suc k) (x ∷ xs)
      go (inl same) ih = at x (sym same.1) rises.0
      go (inr other) ih = ap (λ b. sum (map f (cond b (x ∷ filter (nat_le k) xs) (filter (nat_le k) xs)))) (same_from k x other.1) ∙ later (nat_le (suc k) x) (ih (second (nat_eq k x) (contains k xs) other.0 h))

module _ {V : Type 0} (t : Tree V) (tree : IsTree t) where
  -- a subtree has its root and the subtrees of its children
  size-step : (n : ℕ) → n < length t → subtree_size t n ≡ suc (sum (map (subtree_size t) (children t n)))
  size-step n h = from_children-step t 0 (λ size m. suc (sum (map size (children t m)))) (λ m f g same. ap (λ xs. suc (sum xs)) (map_same f g (children t m) same)) (children_behind t tree) n h

  -- where all children count, so does the whole subtree
  pub size_whole : (n m : ℕ) → n ≤ suc m → m < length t → suc (from_on (subtree_size t) n (children t m)) ≡ subtree_size t m
  size_whole n m b h = ap (λ xs. suc (sum (map (subtree_size t) xs))) (all_pass (nat_le n) (children t m) (λ c among. let behind = (children_behind t tree m c among).0 in le-leb n c (omega arith))) ∙ sym (size-step m h)

  -- no child counts yet
  pub size_none : (n m : ℕ) → length t ≤ n → suc (from_on (subtree_size t) n (children t m)) ≡ 1
  size_none n m b = ap (λ xs. suc (sum (map (subtree_size t) xs))) (none_passes (nat_le n) (children t m) (λ c among. let inside = (children_behind t tree m c among).1 in above c (nat_le n c) refl inside))
    where
      above : (c : ℕ) (b : Bool) → nat_le n c ≡ b → c < length t → nat_le n c ≡ false
      above c true e inside = absurd (let l = leb-true n c e in omega arith)
      above c false e inside = e

  rising_children : (m : ℕ) → Rises (children t m)
  rising_children m = rises_from (children t m) (AllPairs-from_increasing (children t m) (tree.children_ascend m))

  module _ (k p : ℕ) (h : k < length t) (up : parent_of t k ≡ Some p) where
    among : (m : ℕ) → contains k (children t m) ≡ nat_eq p m
    among m = tree.items_agree m k ∙ rw (lt-ltb k (length t) h, up) refl

    -- k counts at its parent from now on
    at_parent : from_on (subtree_size t) k (children t p) ≡ subtree_size t k + from_on (subtree_size t) (suc k) (children t p)
    at_parent = sum_from (subtree_size t) k (children t p) (rising_children p) (among p ∙ eq-eqb p p refl)

    elsewhere : (m : ℕ) → (p ≡ m → ⊥) → from_on (subtree_size t) k (children t m) ≡ from_on (subtree_size t) (suc k) (children t m)
    elsewhere m other = ap (λ xs. sum (map (subtree_size t) xs)) (same_filter k (children t m) (among m ∙ ne_eqb p m other))

    module _ (sizes : List ℕ) (count : length sizes ≡ length t) (counted : (m : ℕ) → m < length t → get_or sizes m 0 ≡ suc (from_on (subtree_size t) (suc k) (children t m))) where
      before : p < k
      before = parent_before t tree k p up

      pub counted_next : (m : ℕ) → m < length t → get_or (set sizes p (get_or sizes p 0 + get_or sizes k 0)) m 0 ≡ suc (from_on (subtree_size t) k (children t m))
      counted_next m b = go (eqb_tells p m)
        where
          whole : get_or sizes k 0 ≡ subtree_size t k
          whole = counted k h ∙ size_whole (suc k) k (omega arith) h

          here : get_or (set sizes p (get_or sizes p 0 + get_or sizes k 0)) p 0 ≡ suc (from_on (subtree_size t) k (children t p))
          here = get_or-set_same sizes p (get_or sizes p 0 + get_or sizes k 0) 0 (omega (arith, before, count)) ∙ omega (arith, whole, counted p (omega (arith, before)), at_parent)

          go : ((nat_eq p m ≡ true) × (p ≡ m)) ⊎ ((nat_eq p m ≡ false) × (p ≡ m → ⊥)) → get_or (set sizes p (get_or sizes p 0 + get_or sizes k 0)) m 0 ≡ suc (from_on (subtree_size t) k (children t m))
          go (inl same) = subst (λ z. get_or (set sizes p (get_or sizes p 0 + get_or sizes k 0)) z 0 ≡ suc (from_on (subtree_size t) k (children t z))) same.1 here
          go (inr other) = get_or-set_other sizes p m (get_or sizes p 0 + get_or sizes k 0) 0 (λ e. other.1 (sym e)) ∙ counted m b ∙ ap suc (sym (elsewhere m other.1))

      sum_of_two : sum (take (suc k) sizes) ≡ sum (take k sizes) + get_or sizes k 0
      sum_of_two = ap sum (take-suc sizes k 0 (omega (arith, h, count))) ∙ sum_by-append (λ x. x) (take k sizes) (get_or sizes k 0 ∷ []) ∙ omega arith

      part : (xs : List ℕ) (i : ℕ) → i < length xs → get_or xs i 0 ≤ sum xs
      part xs i b = let e = sum_by-set (λ x. x) xs i 0 0 b in omega arith

      length-first : length (take k sizes) ≡ k
      length-first = length-take k sizes ∙ omega (arith, h, count)

      pub total_next : (total : sum (take (suc k) sizes) ≡ length t) → sum (take k (set sizes p (get_or sizes p 0 + get_or sizes k 0))) ≡ length t
      total_next total = ap sum (take-set-lt k sizes p (get_or sizes p 0 + get_or sizes k 0) before)
          ∙ omega (arith, sum_by-set (λ x. x) (take k sizes) p (get_or sizes p 0 + get_or sizes k 0) 0 (omega (arith, length-first, before)), get_or-take k sizes p 0 before, sum_of_two, total)

      pub sum_fits : (total : sum (take (suc k) sizes) ≡ length t) → get_or sizes p 0 + get_or sizes k 0 ≤ length t
      sum_fits total = omega (arith, part (take k sizes) p (omega (arith, length-first, before)), get_or-take k sizes p 0 before, sum_of_two, total)

      default : (xs : List ℕ) (i d e : ℕ) → i < length xs → get_or xs i d ≡ get_or xs i e
      default [] i d e b = absurd (omega arith)
      default (x ∷ xs) zero d e b = refl
      default (x ∷ xs) (suc i) d e b = default xs i d e (omega arith)

      -- the step of the walk at node k
      module _ (total : sum (take (suc k) sizes) ≡ length t) (a b : ℕ) (at_p : a ≡ get_or sizes p a) (at_k : b ≡ get_or sizes k b) where
        both : get_or sizes p 0 + get_or sizes k 0 ≡ a + b
        both = omega (arith, at_p, at_k, default sizes p a 0 (omega (arith, before, h, count)), default sizes k b 0 (omega (arith, h, count)))

        pub step_fits : a + b ≤ length t
        step_fits = omega (arith, both, sum_fits total)

        pub step_total : sum (take k (set sizes p (a + b))) ≡ length t
        step_total = subst (λ z. sum (take k (set sizes p z)) ≡ length t) both (total_next total)

        pub step_counted : (m : ℕ) → m < length t → get_or (set sizes p (a + b)) m 0 ≡ suc (from_on (subtree_size t) k (children t m))
        step_counted m inside = subst (λ z. get_or (set sizes p z) m 0 ≡ suc (from_on (subtree_size t) k (children t m))) both (counted_next m inside)

-- at first each node counts itself alone
pub total_first : (n : ℕ) → sum (take n (replicate n 1)) ≡ n
total_first n = ap sum (whole n (replicate n 1) (length-replicate n 1)) ∙ sum_by-replicate (λ x. x) n 1 ∙ omega arith
  where
    whole : (n : ℕ) (xs : List ℕ) → length xs ≡ n → take n xs ≡ xs
    whole n xs e = subst (λ z. take z xs ≡ xs) e (take-length xs)
