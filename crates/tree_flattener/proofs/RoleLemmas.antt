-- Each flat node has a role.
use Rattle.std.specs.Prelude.{Contains, slice_get, true, false, Bool}
use Rattle.std.proofs.Common.{◌≡◌, ℕ, zero, suc, ◌<◌, ◌≤◌, inl, inr, List, [], ◌∷◌, ◌++◌, length, Some, refl, sym, subst, ◌∙◌, arith, append_assoc}
use Rattle.lido_base.specs.Tree.{Tree, Item, Child, Leaf, rule_at, items_of, children}
use Rattle.flat_grammar.specs.declared.flat.FlatRule.{FlatRule}
use Rattle.flat_grammar.specs.declared.flat.Shape.{Shape}
use Rattle.flat_grammar.specs.FlatTrees.{IsNodeOf, AreCells, AreItems, IsFlatTree}
use Rattle.flat_grammar.specs.WellFormed.{cell_of}
use Rattle.tree_flattener.specs.Roles.{IsCellOfList, HasRole}
use Rattle.tree_flattener.proofs.OnePathLemmas.{rule_there, rule_inside, same_child, own_item, some_parent}

module _ {V : Type 0} (rules : List FlatRule) (shapes : List Shape) (W F : Tree V) (ns : List ℕ)
    (shaped : (w : ℕ) → w < length W → (shape : Shape) × Contains shapes shape × (rule_at W w ≡ Some shape.rule.0)) (f : IsFlatTree rules shapes W F ns) where
  abbrev Role : ℕ → Type 0
  Role n = (w : ℕ) × HasRole rules shapes W F ns n w

  -- a child among items is a written node
  child_role : (is ws : List (Item V)) → AreItems rules shapes F ns is ws → (j n : ℕ) → slice_get is j ≡ Some (Child n) → Role n
  child_role [] ws h j n e = cc
  child_role (Child m ∷ is) [] h j n e = absurd h
  child_role (Child m ∷ is) (Leaf u ∷ ws) h j n e = absurd h
  child_role (Leaf v ∷ is) [] h j n e = absurd h
  child_role (Leaf v ∷ is) (Child w ∷ ws) h j n e = absurd h
  child_role (Child m ∷ is) (Child w ∷ ws) h zero n e = (w, inl (subst (λ x. IsNodeOf rules shapes F ns x w) (same_child m n refl e) h.0))
  child_role (Child m ∷ is) (Child w ∷ ws) h (suc j) n e = child_role is ws h.1 j n e
  child_role (Leaf v ∷ is) (Leaf u ∷ ws) h zero n e = cc
  child_role (Leaf v ∷ is) (Leaf u ∷ ws) h (suc j) n e = child_role is ws h.1 j n e

  -- below a written node
  below_node : (p w : ℕ) → p < length F → IsNodeOf rules shapes F ns p w → (j n : ℕ) → slice_get (items_of F p) j ≡ Some (Child n) → Role n
  below_node p w inside s j n e =
      let rule = rule_there F p inside in
      let of_w : rule_at W w ≡ Some rule.0 = sym (f.same_rules p w s) ∙ rule.1 in
      let (shape, among, at) = shaped w (rule_inside W w rule.0 of_w) in go shape among at shape.list refl
    where
      first : (c k : ℕ) → slice_get {X = Item V} (Child c ∷ []) k ≡ Some (Child n) → c ≡ n
      first c zero h = same_child c n refl h
      first c (suc k) h = cc

      go : (shape : Shape) → Contains shapes shape → rule_at W w ≡ Some shape.rule.0 → (list : Bool) → shape.list ≡ list → Role n
      go shape among at false plain = child_role (items_of F p) (items_of W w) (f.plain_nodes p w shape among s (f.same_rules p w s ∙ at) plain) j n e
      go shape among at true list =
          let (c, one, cells) = f.list_nodes p w shape among s (f.same_rules p w s ∙ at) list in
          let here : c ≡ n = first c j (subst (λ is. slice_get is j ≡ Some (Child n)) one e) in
          (w, inr (subst (λ x. IsCellOfList rules shapes W F ns x w) here (record { shape = shape; has_shape = (among, at); is_list = list; before = []; rest = children W w; elements = refl; cells = cells })))

  -- below a cell
  below_cell : (p w : ℕ) → IsCellOfList rules shapes W F ns p w → (j n : ℕ) → slice_get (items_of F p) j ≡ Some (Child n) → Role n
  below_cell p w c j n e = go c.rest c.cells c.elements
    where
      nothing : (k : ℕ) → slice_get {X = Item V} [] k ≡ Some (Child n) → Role n
      nothing k h = cc

      go : (xs : List ℕ) → AreCells rules shapes F ns (cell_of rules c.shape) w p xs → children W w ≡ c.before ++ xs → Role n
      go [] (r, has, left, right, none, of) parted = nothing j (subst (λ is. slice_get is j ≡ Some (Child n)) none e)
      go (x ∷ xs) (r, element, d, next, has, has_element, left, right, items, of, stands, rest) parted =
          at j (subst (λ is. slice_get is j ≡ Some (Child n)) items e)
        where
          at : (k : ℕ) → slice_get {X = Item V} (Child d ∷ Child next ∷ []) k ≡ Some (Child n) → Role n
          at zero h = (x, inl (subst (λ m. IsNodeOf rules shapes F ns m x) (same_child d n refl h) stands))
          at (suc zero) h = (
            w,
            inr (subst (λ m. IsCellOfList rules shapes W F ns m w) (same_child next n refl h) (record {
              shape = c.shape;
              has_shape = c.has_shape;
              is_list = c.is_list;
              before = c.before ++ x ∷ [];
              rest = xs;
              elements = parted ∙ sym (append_assoc c.before (x ∷ []) xs);
              cells = rest;
            })),
          )
          at (suc (suc k)) h = cc

  role_by : (k n : ℕ) → n ≤ k → n < length F → Role n
  role_by k zero b h = (0, inl f.same_root)
  role_by zero (suc n) b h = absurd (omega arith)
  role_by (suc k) (suc n) b h = let (p, up, low) = some_parent F f.tree n h in let (j, item, place) = own_item F f.tree (suc n) p up in
      go p (omega arith) j item (role_by k p (omega arith) (omega arith))
    where
      go : (p : ℕ) → p < length F → (j : ℕ) → slice_get (items_of F p) j ≡ Some (Child (suc n)) → Role p → Role (suc n)
      go p inside j item (w, inl s) = below_node p w inside s j (suc n) item
      go p inside j item (w, inr c) = below_cell p w c j (suc n) item

  pub has_role : (n : ℕ) → n < length F → (w : ℕ) × HasRole rules shapes W F ns n w
  has_role n h = role_by n n (omega arith) h
