-- The items of a node from the last child on up to the next one.
use Rattle.std.specs.Prelude.{slice_get, take}
use Rattle.std.proofs.Common.{◌≡◌, ℕ, zero, suc, ◌+◌, ◌<◌, ◌≤◌, ◌⊎◌, inl, inr, List, [], ◌∷◌, ◌++◌, length, Some, refl, ap, sym, subst, ◌∙◌, arith, add-one, length-append}
use Rattle.std.proofs.lemmas.Bool.{cases_lt}
use Rattle.std.proofs.lemmas.Option.{slice_get_within}
use Rattle.lido_base.specs.declared.value.Value.{Value}
use Rattle.lido_base.specs.Tree.{Item, Child, Leaf, IsTree, parent_of, place_of, items_of, item_at, with_item, rule_at}
use Rattle.flat_grammar.specs.declared.flat.FlatSymbol.{FlatSymbol}
use Rattle.flat_grammar.specs.declared.flat.FlatRule.{FlatRule}
use Rattle.flat_grammar.specs.declared.flat.Shape.{Shape}
use Rattle.flat_grammar.specs.FlatTrees.{AreItems, IsNodeOf}
use Rattle.tree_store.specs.Growth.{IsTerminal}
use Rattle.tree_store.proofs.GrowthLemmas.{items_of-with_item}
use Rattle.tree_flattener.proofs.GrowLemmas.{rule_at-with_item}
use Rattle.tree_flattener.specs.Drafts.{Table}
use Rattle.lido_base.proofs.PathLemmas.{ascending, own_item}

pub there : {X : Type 0} (xs : List X) (k : ℕ) → k < length xs → (x : X) × (slice_get xs k ≡ Some x)
there [] k h = absurd (omega arith)
there (x ∷ xs) zero h = (x, refl)
there (x ∷ xs) (suc k) h = there xs k (omega arith)

pub take_next : {X : Type 0} (xs : List X) (k : ℕ) (x : X) → slice_get xs k ≡ Some x → take (suc k) xs ≡ take k xs ++ x ∷ []
take_next [] k x e = cc
take_next (y ∷ xs) zero x e = ap (λ z. z ∷ []) (some_same e)
  where
    some_same : Some y ≡ Some x → y ≡ x
    some_same e = cc
take_next (y ∷ xs) (suc k) x e = ap (λ z. y ∷ z) (take_next xs k x e)

pub take_all : {X : Type 0} (xs : List X) (k : ℕ) → length xs ≤ k → take k xs ≡ xs
take_all [] zero h = refl
take_all [] (suc k) h = refl
take_all (x ∷ xs) zero h = absurd (omega arith)
take_all (x ∷ xs) (suc k) h = ap (λ z. x ∷ z) (take_all xs k (omega arith))

pub take_short : {X : Type 0} (xs : List X) (k : ℕ) → length (take k xs) ≤ k
take_short [] zero = omega arith
take_short [] (suc k) = omega arith
take_short (x ∷ xs) zero = omega arith
take_short (x ∷ xs) (suc k) = let h = take_short xs k in omega arith

pub take_none : {X : Type 0} (xs : List X) → take 0 xs ≡ []
take_none xs = refl

module _ (symbols : List FlatSymbol) (rules : List FlatRule) (shapes : List Shape) (W F : Table) (node_of : List ℕ) where
  pub items_append : (is ws js xs : List (Item Value)) → AreItems rules shapes F node_of is ws → AreItems rules shapes F node_of js xs → AreItems rules shapes F node_of (is ++ js) (ws ++ xs)
  items_append [] [] js xs h i = i
  items_append (Child n ∷ is) (Child w ∷ ws) js xs (s, h) i = (s, items_append is ws js xs h i)
  items_append (Leaf v ∷ is) (Leaf u ∷ ws) js xs (e, h) i = (e, items_append is ws js xs h i)
  items_append [] (x ∷ ws) js xs h i = absurd h
  items_append (Child n ∷ is) [] js xs h i = absurd h
  items_append (Leaf v ∷ is) [] js xs h i = absurd h
  items_append (Child n ∷ is) (Leaf u ∷ ws) js xs h i = absurd h
  items_append (Leaf v ∷ is) (Child w ∷ ws) js xs h i = absurd h

  pub items_length : (is ws : List (Item Value)) → AreItems rules shapes F node_of is ws → length is ≡ length ws
  items_length [] [] h = refl
  items_length (Child n ∷ is) (Child w ∷ ws) (s, h) = ap suc (items_length is ws h)
  items_length (Leaf v ∷ is) (Leaf u ∷ ws) (e, h) = ap suc (items_length is ws h)
  items_length [] (x ∷ ws) h = absurd h
  items_length (Child n ∷ is) [] h = absurd h
  items_length (Leaf v ∷ is) [] h = absurd h
  items_length (Child n ∷ is) (Leaf u ∷ ws) h = absurd h
  items_length (Leaf v ∷ is) (Child w ∷ ws) h = absurd h

  -- the items stand for each other also where more is known to stand for something
  pub items_along : (G : Table) (more : List ℕ) → ((n w : ℕ) → IsNodeOf rules shapes F node_of n w → IsNodeOf rules shapes G more n w)
      → (is ws : List (Item Value)) → AreItems rules shapes F node_of is ws → AreItems rules shapes G more is ws
  items_along G more f [] [] h = tt
  items_along G more f (Child n ∷ is) (Child w ∷ ws) (s, h) = (f n w s, items_along G more f is ws h)
  items_along G more f (Leaf v ∷ is) (Leaf u ∷ ws) (e, h) = (e, items_along G more f is ws h)
  items_along G more f [] (x ∷ ws) h = absurd h
  items_along G more f (Child n ∷ is) [] h = absurd h
  items_along G more f (Leaf v ∷ is) [] h = absurd h
  items_along G more f (Child n ∷ is) (Leaf u ∷ ws) h = absurd h
  items_along G more f (Leaf v ∷ is) (Child w ∷ ws) h = absurd h

  -- one more terminal on both sides
  pub leaf_more : (p : ℕ) (u : Value) (G : Table) → G ≡ with_item F p (Leaf u) → p < length F → (xs : List (Item Value)) (k : ℕ) → slice_get xs k ≡ Some (Leaf u)
      → AreItems rules shapes F node_of (items_of F p) (take k xs) → AreItems rules shapes G node_of (items_of G p) (take (k + 1) xs)
  leaf_more p u G e inside xs k at h = subst (λ is. AreItems rules shapes G node_of is (take (k + 1) xs)) (sym (ap (λ g. items_of g p) e ∙ items_of-with_item F p (Leaf u) inside))
      (subst (λ ws. AreItems rules shapes G node_of (items_of F p ++ Leaf u ∷ []) ws) (sym (ap (λ i. take i xs) (add-one k) ∙ take_next xs k (Leaf u) at))
      (items_along G node_of stands (items_of F p ++ Leaf u ∷ []) (take k xs ++ Leaf u ∷ []) (items_append (items_of F p) (take k xs) (Leaf u ∷ []) (Leaf u ∷ []) h (refl, tt))))
    where
      stands : (n w : ℕ) → IsNodeOf rules shapes F node_of n w → IsNodeOf rules shapes G node_of n w
      stands n w (plain, of) = (λ cell. plain (cell.0, (cell.1.0, sym (ap (λ g. rule_at g n) e ∙ rule_at-with_item F p (Leaf u) n) ∙ cell.1.1, cell.1.2), cell.2), of)

  -- a node has one item more
  pub places_more : (p : ℕ) (x : Item Value) (G : Table) → G ≡ with_item F p x → p < length F → length (items_of G p) ≡ length (items_of F p) + 1
  places_more p x G e inside = ap length (ap (λ g. items_of g p) e ∙ items_of-with_item F p x inside) ∙ length-append (items_of F p) (x ∷ [])

module _ (W : Table) (m v done : ℕ)
    (before : (k c : ℕ) → item_at W m k ≡ Some (Child c) → k ≤ done → c < v) (behind : (k c : ℕ) → item_at W m k ≡ Some (Child c) → done < k → v ≤ c) where
  -- an item is no child where it would be both met and not
  terminal_at : (k : ℕ) → k < length (items_of W m) → ((c : ℕ) → item_at W m (suc k) ≡ Some (Child c) → ⊥) → IsTerminal W m (k + 1)
  terminal_at k h no_child = let x = there (items_of W m) k h in go x.0 x.1
    where
      go : (x : Item Value) → slice_get (items_of W m) k ≡ Some x → IsTerminal W m (k + 1)
      go (Child c) e = absurd (no_child c e)
      go (Leaf u) e = (u, subst (λ i. item_at W m i ≡ Some (Leaf u)) (sym (add-one k)) e)

  -- where no child is left, the further items are terminals
  pub rest_terminals : ((k c : ℕ) → item_at W m k ≡ Some (Child c) → c < v) → (k : ℕ) → done ≤ k → k < length (items_of W m) → IsTerminal W m (k + 1)
  rest_terminals all_met k low high = terminal_at k high (λ c e. let a = all_met (suc k) c e in let b = behind (suc k) c e (omega arith) in omega arith)

  -- and in a list there are none
  pub rest_empty : ((k c : ℕ) → item_at W m k ≡ Some (Child c) → c < v) → ((k : ℕ) (x : Item Value) → slice_get (items_of W m) k ≡ Some x → (c : ℕ) × (x ≡ Child c)) → length (items_of W m) ≤ done
  rest_empty all_met elements = go (cases_lt done (length (items_of W m)))
    where
      go : (done < length (items_of W m)) ⊎ (length (items_of W m) ≤ done) → length (items_of W m) ≤ done
      go (inr h) = h
      go (inl h) = let x = there (items_of W m) done h in let e = elements done x.0 x.1 in
          let at : item_at W m (suc done) ≡ Some (Child e.0) = x.1 ∙ ap Some e.1 in
          let a = all_met (suc done) e.0 at in let b = behind (suc done) e.0 at (omega arith) in absurd (omega arith)

  module _ (tree : IsTree W) (up : parent_of W v ≡ Some m) where
    at : item_at W m (place_of W v) ≡ Some (Child v)
    at = own_item W tree v m up

    pub next_behind : done < place_of W v
    next_behind = go (cases_lt done (place_of W v))
      where
        go : (done < place_of W v) ⊎ (place_of W v ≤ done) → done < place_of W v
        go (inl h) = h
        go (inr h) = let b = before (place_of W v) v at h in absurd (omega arith)

    no_child : (k : ℕ) → done ≤ k → suc k < place_of W v → (c : ℕ) → item_at W m (suc k) ≡ Some (Child c) → ⊥
    no_child k low high c e = let a = ascending W tree m (suc k) (place_of W v) c v e at high in let b = behind (suc k) c e (omega arith) in omega arith

    pub next_item : (j : ℕ) → suc j ≡ place_of W v → slice_get (items_of W m) j ≡ Some (Child v)
    next_item j e = subst (λ k. item_at W m k ≡ Some (Child v)) (sym e) at

    -- the items between are terminals
    pub terminals_between : (k : ℕ) → done ≤ k → k + 1 < place_of W v → IsTerminal W m (k + 1)
    terminals_between k low high = go (place_of W v) refl
      where
        go : (p : ℕ) → p ≡ place_of W v → IsTerminal W m (k + 1)
        go zero e = absurd (omega arith)
        go (suc j) e = let h = slice_get_within (items_of W m) j (Child v) (next_item j e) in terminal_at k (omega arith) (no_child k low (omega arith))

    -- in a list there are none
    pub next_element : ((k : ℕ) (x : Item Value) → slice_get (items_of W m) k ≡ Some x → (c : ℕ) × (x ≡ Child c)) → suc done ≡ place_of W v
    next_element elements = go (place_of W v) refl
      where
        go : (p : ℕ) → p ≡ place_of W v → suc done ≡ place_of W v
        go zero e = let h = next_behind in absurd (omega arith)
        go (suc j) e = same (cases_lt done j)
          where
            same : (done < j) ⊎ (j ≤ done) → suc done ≡ place_of W v
            same (inr h) = let l = next_behind in omega arith
            same (inl h) = let inside = slice_get_within (items_of W m) j (Child v) (next_item j e) in
                let x = there (items_of W m) done (omega arith) in let c = elements done x.0 x.1 in absurd (no_child done (omega arith) (omega arith) c.0 (x.1 ∙ ap Some c.1))
