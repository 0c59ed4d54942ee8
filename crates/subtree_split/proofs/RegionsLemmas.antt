-- The regions of nodes, by their numbers and their parents.
use Rattle.std.specs.Prelude.{Bool, true, false, cond, nat_eq, map, find, if◌then◌else◌}
use Rattle.std.specs.List.{range_with_len}
use Rattle.std.proofs.Common.{◌≡◌, ℕ, suc, ◌+◌, ◌<◌, ◌≤◌, ◌⊎◌, inl, inr, List, [], ◌∷◌, ◌++◌, length, get_or, set, take, Some, refl, ap, sym, subst, ◌∙◌, arith, add-one}
use Rattle.std.proofs.lemmas.Bool.{ne_eqb, eq-eqb}
use Rattle.std.proofs.lemmas.Bool.Decides.{eqb_tells}
use Rattle.std.proofs.lemmas.Grind.{same_number_lists}
use Rattle.std.proofs.lemmas.List.{get_or-map, get_or-set_same, get_or-set_other, length-map, length-take, map_push}
use Rattle.std.proofs.Math.Seq.{take-suc}
use Rattle.std.proofs.lemmas.List.FromFn.{length-map-range_with_len, get_or-range_with_len, length-range_with_len}
use Rattle.lido_base.specs.declared.ids.NodeId.{NodeId}
use Rattle.lido_base.specs.Tree.{Tree, IsTree, parent_of, contains, ancestors}
use Rattle.lido_base.proofs.TreeLemmas.{ancestors-root, ancestors-child, parent_before}
use Rattle.tree_store.specs.Regions.{place_from, number_among, number_found, region, regions}

place_push_other : (k : ℕ) (xs : List ℕ) (y m : ℕ) → (m ≡ y → ⊥) → place_from k (xs ++ y ∷ []) m ≡ place_from k xs m
place_push_other k [] y m other = rw (ne_eqb m y other) refl
place_push_other k (x ∷ xs) y m other = ap (λ rest. if nat_eq m x then k else rest) (place_push_other (suc k) xs y m other)

place_push_kept : (k : ℕ) (xs : List ℕ) (y m : ℕ) → (place_from k xs m ≡ 0 → ⊥) → place_from k (xs ++ y ∷ []) m ≡ place_from k xs m
place_push_kept k [] y m some = absurd (some refl)
place_push_kept k (x ∷ xs) y m some = go (nat_eq m x) refl (place_push_kept (suc k) xs y m)
  where
    go : (b : Bool) → nat_eq m x ≡ b → ((place_from (suc k) xs m ≡ 0 → ⊥) → place_from (suc k) (xs ++ y ∷ []) m ≡ place_from (suc k) xs m) → place_from k ((x ∷ xs) ++ y ∷ []) m ≡ place_from k (x ∷ xs) m
    go true e ih = rw e refl
    go false e ih = rw e (ih (λ none. some (rw e none)))

place_push_here : (k : ℕ) (xs : List ℕ) (y : ℕ) → place_from (suc k) xs y ≡ 0 → place_from (suc k) (xs ++ y ∷ []) y ≡ suc k + length xs
place_push_here k [] y none = rw (eq-eqb y y refl) (omega arith)
place_push_here k (x ∷ xs) y none = go (nat_eq y x) refl (place_push_here (suc k) xs y)
  where
    go : (b : Bool) → nat_eq y x ≡ b → (place_from (suc (suc k)) xs y ≡ 0 → place_from (suc (suc k)) (xs ++ y ∷ []) y ≡ suc (suc k) + length xs) → place_from (suc k) ((x ∷ xs) ++ y ∷ []) y ≡ suc k + length (x ∷ xs)
    go true e ih = let h : suc k ≡ 0 = rw e at none in absurd (omega arith)
    go false e ih = rw e (ih (rw e at none) ∙ omega arith)

-- one more split node has its number
pub number_step : (count : ℕ) (old new xs : List ℕ) (y v : ℕ) → length old ≡ count → ((m : ℕ) → m < count → get_or old m 0 ≡ number_among xs m)
    → (y < length old → get_or old y 0 ≡ 0 → get_or new y 0 ≡ v) → ((get_or old y 0 ≡ 0 → ⊥) → get_or new y 0 ≡ get_or old y 0)
    → ((m : ℕ) → (m ≡ y → ⊥) → get_or new m 0 ≡ get_or old m 0) → v ≡ 1 + length xs
    → (m : ℕ) → m < count → get_or new m 0 ≡ number_among (xs ++ y ∷ []) m
number_step count old new xs y v each numbered here kept others v_is m h = go (eqb_tells m y)
  where
    at : y < count → get_or new y 0 ≡ number_among (xs ++ y ∷ []) y
    at inside = pick (eqb_tells (get_or old y 0) 0)
      where
        pick : ((nat_eq (get_or old y 0) 0 ≡ true) × (get_or old y 0 ≡ 0)) ⊎ ((nat_eq (get_or old y 0) 0 ≡ false) × (get_or old y 0 ≡ 0 → ⊥)) → get_or new y 0 ≡ number_among (xs ++ y ∷ []) y
        pick (inl none) = here (omega (arith, each)) none.1 ∙ v_is ∙ sym (place_push_here 0 xs y (sym (numbered y inside) ∙ none.1))
        pick (inr some) = kept some.1 ∙ numbered y inside ∙ sym (place_push_kept 1 xs y y (λ e. some.1 (numbered y inside ∙ e)))

    go : ((nat_eq m y ≡ true) × (m ≡ y)) ⊎ ((nat_eq m y ≡ false) × (m ≡ y → ⊥)) → get_or new m 0 ≡ number_among (xs ++ y ∷ []) m
    go (inl same) = subst (λ z. get_or new z 0 ≡ number_among (xs ++ y ∷ []) z) (sym same.1) (at (subst (λ z. z < count) same.1 h))
    go (inr other) = others m other.1 ∙ numbered m h ∙ sym (place_push_other 1 xs y m other.1)

there : (k : ℕ) (xs : List ℕ) (n : ℕ) → (place_from k xs n ≡ 0 → ⊥) → contains n xs ≡ true
there k [] n some = absurd (some refl)
there k (x ∷ xs) n some = go (nat_eq n x) refl (there (suc k) xs n)
  where
    go : (b : Bool) → nat_eq n x ≡ b → ((place_from (suc k) xs n ≡ 0 → ⊥) → contains n xs ≡ true) → contains n (x ∷ xs) ≡ true
    go true e ih = rw e refl
    go false e ih = rw e (ih (λ none. some (rw e none)))

absent : (k : ℕ) (xs : List ℕ) (n : ℕ) → place_from (suc k) xs n ≡ 0 → contains n xs ≡ false
absent k [] n none = refl
absent k (x ∷ xs) n none = go (nat_eq n x) refl (absent (suc k) xs n)
  where
    go : (b : Bool) → nat_eq n x ≡ b → (place_from (suc (suc k)) xs n ≡ 0 → contains n xs ≡ false) → contains n (x ∷ xs) ≡ false
    go true e ih = let h : suc k ≡ 0 = rw e at none in absurd (omega arith)
    go false e ih = rw e (ih (rw e at none))

module _ {V : Type 0} (t : Tree V) (tree : IsTree t) (nodes : List ℕ) where
  -- by whether the node itself is a split node
  first : (n : ℕ) (b : Bool) → contains n nodes ≡ b → region t nodes n ≡ number_found nodes (cond b (Some n) (find (λ m. contains m nodes) (ancestors t n)))
  first n b e = ap (λ z. number_found nodes (cond z (Some n) (find (λ m. contains m nodes) (ancestors t n)))) e

  region_own : (n : ℕ) → (number_among nodes n ≡ 0 → ⊥) → region t nodes n ≡ number_among nodes n
  region_own n some = first n true (there 1 nodes n some)

  region_up : (n p : ℕ) → number_among nodes n ≡ 0 → parent_of t n ≡ Some p → region t nodes n ≡ region t nodes p
  region_up n p none up = first n false (absent 0 nodes n none) ∙ ap (λ above. number_found nodes (find (λ m. contains m nodes) above)) (ancestors-child t tree n p up)

  pub region_root : region t nodes 0 ≡ number_among nodes 0
  region_root = pick (eqb_tells (number_among nodes 0) 0)
    where
      pick : ((nat_eq (number_among nodes 0) 0 ≡ true) × (number_among nodes 0 ≡ 0)) ⊎ ((nat_eq (number_among nodes 0) 0 ≡ false) × (number_among nodes 0 ≡ 0 → ⊥)) → region t nodes 0 ≡ number_among nodes 0
      pick (inl none) = first 0 false (absent 0 nodes 0 none.1) ∙ ap (λ above. number_found nodes (find (λ m. contains m nodes) above)) (ancestors-root t 0 tree.root_first) ∙ sym none.1
      pick (inr some) = region_own 0 some.1

  -- the walk goes on by one node
  module _ (old : List ℕ) (n p v : ℕ) (each : length old ≡ length t) (inside : n < length t) (up : parent_of t n ≡ Some p)
      (before : (m : ℕ) → m < n → m < length t → get_or old m 0 ≡ region t nodes m) (behind : (m : ℕ) → n ≤ m → m < length t → get_or old m 0 ≡ number_among nodes m)
      (own : (get_or old n 0 ≡ 0 → ⊥) → v ≡ get_or old n 0) (above : get_or old n 0 ≡ 0 → v ≡ get_or old p 0) where
    region_is : v ≡ region t nodes n
    region_is = pick (eqb_tells (get_or old n 0) 0)
      where
        pick : ((nat_eq (get_or old n 0) 0 ≡ true) × (get_or old n 0 ≡ 0)) ⊎ ((nat_eq (get_or old n 0) 0 ≡ false) × (get_or old n 0 ≡ 0 → ⊥)) → v ≡ region t nodes n
        pick (inl none) = let b = parent_before t tree n p up in above none.1 ∙ before p b (omega arith) ∙ sym (region_up n p (sym (behind n (omega arith) inside) ∙ none.1) up)
        pick (inr some) = own some.1 ∙ behind n (omega arith) inside ∙ sym (region_own n (λ e. some.1 (behind n (omega arith) inside ∙ e)))

    pub before_step : (m : ℕ) → m < n + 1 → m < length t → get_or (set old n v) m 0 ≡ region t nodes m
    before_step m h b = go (eqb_tells m n)
      where
        go : ((nat_eq m n ≡ true) × (m ≡ n)) ⊎ ((nat_eq m n ≡ false) × (m ≡ n → ⊥)) → get_or (set old n v) m 0 ≡ region t nodes m
        go (inl same) = subst (λ z. get_or (set old n v) z 0 ≡ region t nodes z) (sym same.1) (get_or-set_same old n v 0 (omega (arith, each)) ∙ region_is)
        go (inr other) = get_or-set_other old n m v 0 other.1 ∙ before m (below m n h other.1) b
          where
            below : (a c : ℕ) → a < c + 1 → (a ≡ c → ⊥) → a < c
            below a c h other = grind arith

    pub behind_step : (m : ℕ) → n + 1 ≤ m → m < length t → get_or (set old n v) m 0 ≡ number_among nodes m
    behind_step m h b = get_or-set_other old n m v 0 (λ e. omega arith) ∙ behind m (omega arith) b

  pub all_regions : (numbers : List ℕ) → length numbers ≡ length t → ((m : ℕ) → m < length t → get_or numbers m 0 ≡ region t nodes m) → numbers ≡ regions t nodes
  all_regions numbers each is = same_number_lists numbers (regions t nodes) (each ∙ sym (length-map-range_with_len (region t nodes) 0 (length t)))
      (λ m h. is m (omega (arith, each)) ∙ sym (at m (omega (arith, each))))
    where
      at : (m : ℕ) → m < length t → get_or (regions t nodes) m 0 ≡ region t nodes m
      at m h = get_or-map (region t nodes) (range_with_len 0 (length t)) m 0 0 (omega (arith, length-range_with_len 0 (length t))) ∙ ap (region t nodes) (get_or-range_with_len 0 (length t) m 0 h ∙ omega arith)

-- the split nodes so far, and one more
pub so_far_push : (nodes : List NodeId) (k : ℕ) (d : NodeId) → k < length nodes → map (λ (m : NodeId). m.0) (take (k + 1) nodes) ≡ map (λ (m : NodeId). m.0) (take k nodes) ++ (get_or nodes k d).0 ∷ []
so_far_push nodes k d h = ap (λ z. map (λ (m : NodeId). m.0) (take z nodes)) (add-one k) ∙ ap (map (λ (m : NodeId). m.0)) (take-suc nodes k d h) ∙ map_push (λ (m : NodeId). m.0) (take k nodes) (get_or nodes k d)

pub length-so_far : (nodes : List NodeId) (k : ℕ) → k < length nodes → length (map (λ (m : NodeId). m.0) (take k nodes)) ≡ k
length-so_far nodes k h = length-map (take k nodes) (λ (m : NodeId). m.0) ∙ length-take k nodes ∙ omega (arith, h)
