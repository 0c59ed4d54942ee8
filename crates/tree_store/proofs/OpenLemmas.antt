-- Which nodes can get items.
use Rattle.std.specs.Prelude.{Contains, slice_get}
use Rattle.std.proofs.Common.{◌≡◌, ℕ, zero, suc, ◌+◌, ◌<◌, ◌≤◌, ◌⊎◌, inl, inr, [], ◌∷◌, length, Option, Some, None, refl, ap, sym, subst, ◌∙◌, arith, add-one, length-append}
use Rattle.std.proofs.lemmas.Option.{slice_get_within}
use Rattle.lido_base.specs.Tree.{Tree, Item, Child, Leaf, IsTree, IsNode, parent_of, items_of, item_at, places, ancestors, with_item, with_node}
use Rattle.lido_base.proofs.EquationsLemmas.{contains-later}
use Rattle.lido_base.proofs.TreeLemmas.{parent_before, ancestors-root, ancestors-child, contains-cons}
use Rattle.tree_store.specs.Growth.{IsOpen}
use Rattle.tree_store.proofs.GrowthLemmas.{length-with_node, length-with_item, parent_of-with_item, parent_of_before, parent_of_last, ancestors_same, open_inside, IsTree-with_node, items_of-append, items_of-parent, items_of-other, get_before, get_last}
use Rattle.lido_base.proofs.PathLemmas.{parent_there}

-- an item that is added stands behind the others
pub item_below : {V : Type 0} (t : Tree V) (p : ℕ) (added : Item V) (n k : ℕ) (x : Item V) → slice_get (items_of t n) k ≡ Some x → slice_get (items_of (with_item t p added) n) k ≡ Some x
item_below [] p added n k x e = e
item_below (node ∷ t) zero added zero k x e = get_before node.items added k (slice_get_within node.items k x e) ∙ e
item_below (node ∷ t) zero added (suc n) k x e = e
item_below (node ∷ t) (suc p) added zero k x e = e
item_below (node ∷ t) (suc p) added (suc n) k x e = item_below t p added n k x e

module _ {V : Type 0} (t : Tree V) (tree : IsTree t) where
  -- above a node, the parent of each ancestor is an ancestor
  upwards_once : (n p q : ℕ) (o : Option ℕ) → parent_of t n ≡ o → Contains (ancestors t n) p → parent_of t p ≡ Some q
      → ((m : ℕ) → m < n → Contains (ancestors t m) p → Contains (ancestors t m) q) → Contains (ancestors t n) q
  upwards_once n p q None up among e higher = let none = rw (ancestors-root t n up) at among in absurd (omega (arith, none.1))
  upwards_once n p q (Some m) up among e higher = subst (λ above. Contains above q) (sym (ancestors-child t tree n m up)) (go (contains-cons m p (ancestors t m) (rw (ancestors-child t tree n m up) at among)))
    where
      before : m < n
      before = parent_before t tree n m up

      go : (m ≡ p) ⊎ Contains (ancestors t m) p → Contains (m ∷ ancestors t m) q
      go (inl same) = contains-later m q (ancestors t m) (subst (λ above. Contains above q) (sym (ancestors-child t tree m q (ap (parent_of t) same ∙ e))) (0, (omega arith), refl))
      go (inr above) = contains-later m q (ancestors t m) (higher m before above)

  ancestors_upwards : (k n p q : ℕ) → n ≤ k → Contains (ancestors t n) p → parent_of t p ≡ Some q → Contains (ancestors t n) q
  ancestors_upwards zero n p q b among e = upwards_once n p q (parent_of t n) refl among e (λ m h a. absurd (omega arith))
  ancestors_upwards (suc k) n p q b among e = upwards_once n p q (parent_of t n) refl among e (λ m h a. ancestors_upwards k m p q (omega arith) a e)

  pub open_upwards : (p q : ℕ) → IsOpen t p → parent_of t p ≡ Some q → IsOpen t q
  open_upwards p q (last, count, inl same) e = (last, count, inr (subst (λ above. Contains above q) (sym (ancestors-child t tree last q (ap (parent_of t) (sym same) ∙ e))) (0, (omega arith), refl)))
  open_upwards p q (last, count, inr above) e = (last, count, inr (ancestors_upwards last last p q (omega arith) above e))

  -- the root stands above each other node
  root_above : (k n : ℕ) → n ≤ k → n < length t → (0 ≡ n) ⊎ Contains (ancestors t n) 0
  root_above k zero b h = inl refl
  root_above zero (suc n) b h = absurd (omega arith)
  root_above (suc k) (suc n) b h = let there = parent_there t tree n (omega arith) in
      let up : parent_of t (suc n) ≡ Some there.0 = rw add-one at there.1 in
      let before = parent_before t tree (suc n) there.0 up in
      inr (subst (λ above. Contains above 0) (sym (ancestors-child t tree (suc n) there.0 up)) (go there.0 (root_above k there.0 (omega arith) (omega arith))))
    where
      go : (p : ℕ) → (0 ≡ p) ⊎ Contains (ancestors t p) 0 → Contains (p ∷ ancestors t p) 0
      go p (inl same) = (0, (omega arith), sym same)
      go p (inr above) = contains-later p 0 (ancestors t p) above

  pub open_root : IsOpen t 0
  open_root = go (length t) refl tree.has_root
    where
      go : (count : ℕ) → length t ≡ count → 0 < length t → IsOpen t 0
      go zero e h = absurd (omega arith)
      go (suc last) e h = (last, e, root_above last last (omega arith) (omega arith))

  pub open_parent : (rule p line column : ℕ) → IsOpen t p → IsOpen (with_node t rule (Some p) line column) p
  open_parent rule p line column open_p = (
    length t,
    length-with_node t rule (Some p) line column ∙ add-one (length t),
    inr
        (subst (λ above. Contains above p) (sym (ancestors-child (with_node t rule (Some p) line column) (IsTree-with_node t tree rule p line column open_p) (length t) p (parent_of_last (with_item t p (Child (length t))) _ (length t) (sym (length-with_item t p (Child (length t))))))) (0, (omega arith), refl)),
  )

  pub open_kept : (p q : ℕ) (v : V) → IsOpen t q → IsOpen (with_item t p (Leaf v)) q
  open_kept p q v (last, count, way) = (last, length-with_item t p (Leaf v) ∙ count, go way)
    where
      go : (q ≡ last) ⊎ Contains (ancestors t last) q → (q ≡ last) ⊎ Contains (ancestors (with_item t p (Leaf v)) last) q
      go (inl same) = inl same
      go (inr above) = inr (subst (λ above. Contains above q) (sym (ancestors_same (with_item t p (Leaf v)) t tree (λ m b. parent_of-with_item t p (Leaf v) m) last (omega arith))) above)

-- there are no items past the nodes
items_past : {V : Type 0} (t : Tree V) (n : ℕ) → length t ≤ n → items_of t n ≡ []
items_past [] n h = refl
items_past (node ∷ t) zero h = absurd (omega arith)
items_past (node ∷ t) (suc n) h = items_past t n (omega arith)

module _ {V : Type 0} (t : Tree V) where
  pub open_added : (rule : ℕ) (parent : Option ℕ) (line column : ℕ) → IsOpen (with_node t rule parent line column) (length t)
  open_added rule parent line column = (length t, length-with_node t rule parent line column ∙ add-one (length t), inl refl)

  -- nothing changes at the nodes that stand there
  pub parent_kept : (rule p line column n : ℕ) → n < length t → parent_of (with_node t rule (Some p) line column) n ≡ parent_of t n
  parent_kept rule p line column n h = parent_of_before (with_item t p (Child (length t))) _ n (omega (arith, length-with_item t p (Child (length t)))) ∙ parent_of-with_item t p (Child (length t)) n

  pub ancestors_kept : (rule p line column n : ℕ) → IsTree t → n < length t → ancestors (with_node t rule (Some p) line column) n ≡ ancestors t n
  ancestors_kept rule p line column n tree h = ancestors_same (with_node t rule (Some p) line column) t tree (parent_kept rule p line column) n h

  pub item_kept : (rule p line column n place : ℕ) (x : Item V) → item_at t n place ≡ Some x → item_at (with_node t rule (Some p) line column) n place ≡ Some x
  item_kept rule p line column n zero x e = cc
  item_kept rule p line column n (suc k) x e = ap (λ items. slice_get items k) (items_of-append (with_item t p (Child (length t))) _ refl n) ∙ item_below t p (Child (length t)) n k x e

  module _ (tree : IsTree t) (rule p line column : ℕ) (open_p : IsOpen t p) where
    -- the parent of the node that is added has one item more, the node
    pub places_more : places (with_node t rule (Some p) line column) p ≡ places t p + 1
    places_more = ap length (items_of-parent t tree rule p line column open_p) ∙ length-append (items_of t p) (Child (length t) ∷ [])

    pub node_there : IsNode (with_node t rule (Some p) line column) p (places t p + 1)
    node_there = (length t, ap (item_at (with_node t rule (Some p) line column) p) (add-one (places t p)) ∙ ap (λ items. slice_get items (places t p)) (items_of-parent t tree rule p line column open_p) ∙ get_last (items_of t p) (Child (length t)) (places t p) refl)

    -- another node has as many as before
    pub places_kept : (n : ℕ) → (p ≡ n → ⊥) → places (with_node t rule (Some p) line column) n ≡ places t n
    places_kept n other = ap length (items_of-other t tree rule p line column open_p n other)

    -- the node that is added has none
    pub places_none : places (with_node t rule (Some p) line column) (length t) ≡ 0
    places_none = places_kept (length t) (λ e. let b = open_inside t tree p open_p in omega arith) ∙ ap length (items_past t (length t) (omega arith))

  pub node_kept : (rule p line column n place : ℕ) → IsNode t n place → IsNode (with_node t rule (Some p) line column) n place
  node_kept rule p line column n place (c, e) = (c, item_kept rule p line column n place (Child c) e)
