-- What stands below a flat node stands for what is below its written node.
use Rattle.std.specs.Prelude.{Contains, slice_get, nat_lt, true, false, Bool}
use Rattle.std.proofs.Common.{◌≡◌, ℕ, zero, suc, ◌<◌, inl, inr, List, [], ◌∷◌, ◌++◌, length, Some, refl, sym, subst, ◌∙◌, append_assoc}
use Rattle.std.proofs.lemmas.List.Elements.{Contains-append_right}
use Rattle.lido_base.specs.Tree.{Tree, Item, Child, Leaf, IsTree, rule_at, parent_of, items_of, children, is_just}
use Rattle.lido_base.proofs.Lists.{contains-here}
use Rattle.lido_base.proofs.PathLemmas.{Contains-child}
use Rattle.lido_base.proofs.TreeLemmas.{test-contains, is_just-some, both}
use Rattle.flat_grammar.specs.declared.flat.FlatRule.{FlatRule}
use Rattle.flat_grammar.specs.declared.flat.Shape.{Shape}
use Rattle.flat_grammar.specs.FlatTrees.{IsNodeOf, AreCells, AreItems, IsFlatTree}
use Rattle.flat_grammar.specs.WellFormed.{cell_of}
use Rattle.tree_flattener.specs.Roles.{IsCellOfList, HasRole}
use Rattle.tree_flattener.proofs.OnePathLemmas.{rule_there, rule_inside, same_child}

-- a child's parent
pub child-parent : {V : Type 0} (t : Tree V) → IsTree t → (n c : ℕ) → Contains (children t n) c → parent_of t c ≡ Some n
child-parent t tree n c m = is_just-some n (parent_of t c) (both (nat_lt c (length t)) (is_just n (parent_of t c)) (sym (tree.items_agree n c) ∙ test-contains c (children t n) m)).1

module _ {V : Type 0} (rules : List FlatRule) (shapes : List Shape) (W F : Tree V) (ns : List ℕ) where
  -- each flat node has the written node of its role
  pub role-origin : (n w : ℕ) → HasRole rules shapes W F ns n w → slice_get ns n ≡ Some w
  role-origin n w (inl s) = s.1
  role-origin n w (inr c) = go c.rest c.cells
    where
      go : (xs : List ℕ) → AreCells rules shapes F ns (cell_of rules c.shape) w n xs → slice_get ns n ≡ Some w
      go [] (r, has, left, right, none, of) = of
      go (x ∷ xs) (r, element, d, next, has, has_element, left, right, items, of, stands, rest) = of

  -- Flat node c stands for a child of written node w, or is a cell of it.
  pub data IsBelow (w c : ℕ) : Type 0 where
    node : (x : ℕ) → IsNodeOf rules shapes F ns c x → parent_of W x ≡ Some w → IsBelow w c
    cell : IsCellOfList rules shapes W F ns c w → IsBelow w c

  module _ (shaped : (w : ℕ) → w < length W → (shape : Shape) × Contains shapes shape × (rule_at W w ≡ Some shape.rule.0)) (tree : IsTree W) (f : IsFlatTree rules shapes W F ns) where
    written : (c w x : ℕ) → IsNodeOf rules shapes F ns c x → Contains (children W w) x → IsBelow w c
    written c w x s m = node x s (child-parent W tree w x m)

    -- a child among the items of a node that is no list
    pub among : (is ws : List (Item V)) → AreItems rules shapes F ns is ws → (j n : ℕ) → slice_get is j ≡ Some (Child n) → (x : ℕ) × IsNodeOf rules shapes F ns n x × (slice_get ws j ≡ Some (Child x))
    among [] ws h j n e = cc
    among (Child m ∷ is) [] h j n e = absurd h
    among (Child m ∷ is) (Leaf u ∷ ws) h j n e = absurd h
    among (Leaf v ∷ is) [] h j n e = absurd h
    among (Leaf v ∷ is) (Child x ∷ ws) h j n e = absurd h
    among (Child m ∷ is) (Child x ∷ ws) h zero n e = (x, subst (λ y. IsNodeOf rules shapes F ns y x) (same_child m n refl e) h.0, refl)
    among (Child m ∷ is) (Child x ∷ ws) h (suc j) n e = among is ws h.1 j n e
    among (Leaf v ∷ is) (Leaf u ∷ ws) h zero n e = cc
    among (Leaf v ∷ is) (Leaf u ∷ ws) h (suc j) n e = among is ws h.1 j n e

    below-node : (n w : ℕ) → n < length F → IsNodeOf rules shapes F ns n w → (j c : ℕ) → slice_get (items_of F n) j ≡ Some (Child c) → IsBelow w c
    below-node n w inside s j c e =
        let (i, at) = rule_there F n inside in
        let of_w : rule_at W w ≡ Some i = sym (f.same_rules n w s) ∙ at in
        let (shape, m, has) = shaped w (rule_inside W w i of_w) in
        go shape m has shape.list refl
      where
        first : (d k : ℕ) → slice_get {X = Item V} (Child d ∷ []) k ≡ Some (Child c) → d ≡ c
        first d zero h = same_child d c refl h
        first d (suc k) h = cc

        go : (shape : Shape) → Contains shapes shape → rule_at W w ≡ Some shape.rule.0 → (list : Bool) → shape.list ≡ list → IsBelow w c
        go shape m at false plain =
            let (x, stands, there) = among (items_of F n) (items_of W w) (f.plain_nodes n w shape m s (f.same_rules n w s ∙ at) plain) j c e in
            written c w x stands (Contains-child (items_of W w) j x there)
        go shape m at true list =
            let (d, one, cells) = f.list_nodes n w shape m s (f.same_rules n w s ∙ at) list in
            let here : d ≡ c = first d j (subst (λ is. slice_get is j ≡ Some (Child c)) one e) in
            cell (subst (λ x. IsCellOfList rules shapes W F ns x w) here (record { shape = shape; has_shape = (m, at); is_list = list; before = []; rest = children W w; elements = refl; cells = cells }))

    below-cell : (n w : ℕ) (cells : IsCellOfList rules shapes W F ns n w) (j c : ℕ) → slice_get (items_of F n) j ≡ Some (Child c) → IsBelow w c
    below-cell n w of j c e = go of.rest of.cells of.elements
      where
        nothing : (k : ℕ) → slice_get {X = Item V} [] k ≡ Some (Child c) → IsBelow w c
        nothing k h = cc

        go : (xs : List ℕ) → AreCells rules shapes F ns (cell_of rules of.shape) w n xs → children W w ≡ of.before ++ xs → IsBelow w c
        go [] (r, has, left, right, none, at) parted = nothing j (subst (λ is. slice_get is j ≡ Some (Child c)) none e)
        go (x ∷ xs) (r, element, d, next, has, has_element, left, right, items, at, stands, rest) parted = here j (subst (λ is. slice_get is j ≡ Some (Child c)) items e)
          where
            here : (k : ℕ) → slice_get {X = Item V} (Child d ∷ Child next ∷ []) k ≡ Some (Child c) → IsBelow w c
            here zero h =
                written c w x (subst (λ m. IsNodeOf rules shapes F ns m x) (same_child d c refl h) stands)
                (subst (λ l. Contains l x) (sym parted) (Contains-append_right of.before (x ∷ xs) x (contains-here x xs)))
            here (suc zero) h = cell (subst (λ m. IsCellOfList rules shapes W F ns m w) (same_child next c refl h) (record {
              shape = of.shape;
              has_shape = of.has_shape;
              is_list = of.is_list;
              before = of.before ++ x ∷ [];
              rest = xs;
              elements = parted ∙ sym (append_assoc of.before (x ∷ []) xs);
              cells = rest;
            }))
            here (suc (suc k)) h = cc

    pub below : (n w : ℕ) → n < length F → HasRole rules shapes W F ns n w → (j c : ℕ) → slice_get (items_of F n) j ≡ Some (Child c) → IsBelow w c
    below n w inside (inl s) j c e = below-node n w inside s j c e
    below n w inside (inr of) j c e = below-cell n w of j c e
