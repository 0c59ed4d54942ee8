-- The flat tree of a written tree has at each node what the node's rule says.
use Rattle.std.specs.Prelude.{Contains, slice_get, is_some, IsTrue, Bool, true, false, if◌then◌else◌}
use Rattle.std.specs.List.{AllZip}
use Rattle.std.proofs.Common.{◌≡◌, ℕ, zero, suc, ◌+◌, ◌<◌, ◌≤◌, ◌⊎◌, inl, inr, List, [], ◌∷◌, length, map, Option, Some, None, refl, arith, ap, sym, subst, ◌∙◌, true≢false}
use Rattle.std.proofs.lemmas.Option.{none-some, slice_get-get_or}
use Rattle.std.proofs.lemmas.Bool.{cases_Bool}
use Rattle.std.proofs.lemmas.List.Elements.{All-contains}
use Rattle.lido_base.specs.declared.ids.SymId.{SymId}
use Rattle.lido_base.specs.declared.value.Value.{Value}
use Rattle.lido_base.specs.Plain.{Plain, plain_item, plain_tree}
use Rattle.lido_base.specs.Tree.{Tree, Item, Child, Leaf, child_number, rule_at, items_of, children, parent_of}
use Rattle.lido_base.proofs.Lists.{map-contains}
use Rattle.lido_base.proofs.TreeLemmas.{parent_before}
use Rattle.lido_base.proofs.PathLemmas.{parent_there, child_of_parent}
use Rattle.lido_base.proofs.PlainLemmas.{plain_rule, plain_items, plain_length}
use Rattle.flat_grammar.specs.declared.flat.FlatSymbol.{FlatSymbol}
use Rattle.flat_grammar.specs.declared.flat.FlatRule.{FlatRule}
use Rattle.flat_grammar.specs.declared.flat.Shape.{Shape}
use Rattle.flat_grammar.specs.Rules.{HasRule}
use Rattle.flat_grammar.specs.WellFormed.{IsWellFormed, IsListShape, positions_from, right_side, cell_of}
use Rattle.flat_grammar.specs.Fitting.{IsFitting, IsItem, HasShape, HasSymbol, node, int, string}
use Rattle.flat_grammar.specs.FlatTrees.{IsFlatTree, is_cell, IsCellNode, IsNodeOf, AreCells, AreItems}
use Rattle.flat_grammar.specs.Instances.{IsOf, IsGrown}
use Rattle.flat_grammar.proofs.Lists.{held, contains-nil, contains-cons}

-- ---- trees

rule-there : {V : Type 0} (t : Tree V) (n : ℕ) → n < length t → (i : ℕ) × (rule_at t n ≡ Some i)
rule-there [] n h = absurd (omega arith)
rule-there (x ∷ t) zero h = (x.rule, refl)
rule-there (x ∷ t) (suc n) h = rule-there t n (omega arith)

pub rule-within : {V : Type 0} (t : Tree V) (n i : ℕ) → rule_at t n ≡ Some i → n < length t
rule-within [] n i e = absurd (none-some _ e)
rule-within (x ∷ t) zero i e = omega arith
rule-within (x ∷ t) (suc n) i e = let h = rule-within t n i e in omega arith

-- a node has one rule
pub one-rule : {V : Type 0} (rules : List FlatRule) (t : Tree V) (n : ℕ) (r q : FlatRule) → HasRule rules t n r → HasRule rules t n q → r ≡ q
one-rule rules t n r q (i, e, f) (k, g, h) = held (sym f ∙ (ap (λ z. slice_get rules z) (held (sym e ∙ g)) ∙ h))

-- the child that stands at a place
pub same-child : {V : Type 0} (c d : ℕ) → ◌≡◌ {A = Option (Item V)} (Some (Child c)) (Some (Child d)) → c ≡ d
same-child c d e = held (ap child_number (held e))

no-leaf : {V : Type 0} (v : V) (c : ℕ) → Some (Leaf v) ≡ Some (Child c) → ⊥
no-leaf v c e = none-some c (ap child_number (held e))

-- ---- shapes

-- a place of a rule is one of the list
positions-in : (p : FlatRule → Bool) (k : ℕ) (rules : List FlatRule) (i : ℕ) → Contains (positions_from p k rules) i → (j : ℕ) × (r : FlatRule) × (i ≡ k + j) × (slice_get rules j ≡ Some r)
positions-in p k [] i h = absurd (contains-nil i h)
positions-in p k (r ∷ more) i h = go (p r) h (positions-in p (suc k) more i)
  where
    go : (b : Bool) → Contains (if b then k ∷ positions_from p (suc k) more else positions_from p (suc k) more) i
        → (Contains (positions_from p (suc k) more) i → (j : ℕ) × (q : FlatRule) × (i ≡ suc k + j) × (slice_get more j ≡ Some q)) → (j : ℕ) × (q : FlatRule) × (i ≡ k + j) × (slice_get (r ∷ more) j ≡ Some q)
    go true m later = elim (contains-cons k i (positions_from p (suc k) more) m) [
      | inl e ↦ (0, r, (omega (arith, e)), refl)
      | inr n ↦ (let q = later n in (suc q.0, q.1, (let x = q.2 in omega (arith, x)), q.3))
    ]
    go false m later = let q = later m in (suc q.0, q.1, (let x = q.2 in omega (arith, x)), q.3)

-- a shape's rule is one of the rules
pub shape-rule : (symbols : List FlatSymbol) (rules : List FlatRule) (shapes : List Shape) (root : SymId) → IsWellFormed symbols rules shapes root → (shape : Shape) → Contains shapes shape
    → (r : FlatRule) × (slice_get rules shape.rule.0 ≡ Some r)
shape-rule symbols rules shapes root formed shape m =
    let p = positions-in _ 0 rules shape.rule.0 (subst (λ l. Contains l shape.rule.0) formed.each_shape (map-contains (λ (s : Shape). s.rule.0) shapes shape m)) in
    let same : p.0 ≡ shape.rule.0 = let x = p.2 in omega (arith, x) in
    (p.1, ap (λ k. slice_get rules k) (sym same) ∙ p.3)

right-is : (rules : List FlatRule) (shape : Shape) (r : FlatRule) → slice_get rules shape.rule.0 ≡ Some r → right_side rules shape ≡ r.right
right-is rules shape r e = ap (λ (x : Option FlatRule). elim x [ None ↦ [] | Some q ↦ q.right ]) e

-- ---- a flat tree, where the written tree's plain nodes have what their shapes say
module _ {V : Type 0} (symbols : List FlatSymbol) (rules : List FlatRule) (shapes : List Shape) (root : SymId) (formed : IsWellFormed symbols rules shapes root)
    (W F : Tree V) (node_of : List ℕ) (flat : IsFlatTree rules shapes W F node_of) (root_node : HasSymbol rules W 0 root)
    (shaped : (w : ℕ) → w < length W → (shape : Shape) × HasShape shapes W w shape)
    (plain : (w : ℕ) (shape : Shape) → HasShape shapes W w shape → shape.list ≡ false → AllZip (IsOf symbols rules W) shape.right (items_of W w)) where
  abbrev Cells : SymId → ℕ → ℕ → List ℕ → Type 0
  Cells cell w c xs = AreCells rules shapes F node_of cell w c xs

  abbrev Stands : ℕ → ℕ → Type 0
  Stands n w = IsNodeOf rules shapes F node_of n w

  abbrev IsCell : ℕ → Type 0
  IsCell n = IsCellNode rules shapes F n

  abbrev At : ℕ → FlatRule → Type 0
  At n r = HasRule rules F n r

  -- the written node of a flat node that is no cell, with its shape and its rule
  record Written (n w : ℕ) : Type 0 where
    stands : Stands n w
    shape : Shape
    among : Contains shapes shape
    at_written : rule_at W w ≡ Some shape.rule.0
    at_flat : rule_at F n ≡ Some shape.rule.0
    rule : FlatRule
    is : slice_get rules shape.rule.0 ≡ Some rule

  written : (n w i : ℕ) → Stands n w → rule_at F n ≡ Some i → Written n w
  written n w i s e =
      let same = flat.same_rules n w s in
      let x = shaped w (rule-within W w i (sym same ∙ e)) in
      let r = shape-rule symbols rules shapes root formed x.0 x.1.0 in
      record { stands = s; shape = x.0; among = x.1.0; at_written = x.1.1; at_flat = same ∙ x.1.1; rule = r.0; is = r.1 }

  written-at : (n w : ℕ) (x : Written n w) → At n x.rule
  written-at n w x = (x.shape.rule.0, x.at_flat, x.is)

  node-there : (n : ℕ) → n < length F → (w : ℕ) × (slice_get node_of n ≡ Some w)
  node-there n h = (_, slice_get-get_or node_of n 0 (let e = flat.each_node in omega arith))

  -- each node has a rule
  has-rule : (n : ℕ) → n < length F → (r : FlatRule) × At n r
  has-rule n h = let p = rule-there F n h in go p.0 p.1 (slice_get rules p.0) refl
    where
      go : (i : ℕ) → rule_at F n ≡ Some i → (x : Option FlatRule) → slice_get rules i ≡ x → (r : FlatRule) × At n r
      go i e (Some r) f = (r, (i, e, f))
      go i e None f =
          let no-cell : ¬ IsCell n = λ c. none-some _ (sym f ∙ (ap (λ k. slice_get rules k) (held (sym e ∙ c.1.1)) ∙ c.1.2)) in
          let w = node-there n h in
          let x = written n w.0 i (no-cell, w.1) e in (x.rule, written-at n w.0 x)

  cell-left : (cell : SymId) (w c : ℕ) (xs : List ℕ) → Cells cell w c xs → HasSymbol rules F c cell
  cell-left cell w c [] (r, at, l, none, items, of) = (r, at, l)
  cell-left cell w c (x ∷ xs) (r, element, e, next, at, of, l, right, items, w-of, stands, more) = (r, at, l)

  abbrev Grows : FlatRule → ℕ → Type 0
  Grows r n = AllZip (IsOf symbols rules F) r.right (items_of F n)

  cell-items : (cell : SymId) (w c : ℕ) (xs : List ℕ) → Cells cell w c xs → (r : FlatRule) → At c r → Grows r c
  cell-items cell w c [] (q, at, l, none, items, of) r be =
      let e : r.right ≡ [] = ap (λ (z : FlatRule). z.right) (one-rule rules F c r q be at) ∙ none in
      subst (λ is. AllZip (IsOf symbols rules F) r.right is) (sym items) (subst (λ ss. AllZip (IsOf symbols rules F) ss []) (sym e) tt)
  cell-items cell w c (x ∷ xs) (q, element, e, next, at, of, l, right, items, w-of, stands, more) r be =
      let f : r.right ≡ element.left ∷ cell ∷ [] = ap (λ (z : FlatRule). z.right) (one-rule rules F c r q be at) ∙ right in
      subst (λ is. AllZip (IsOf symbols rules F) r.right is) (sym items) (subst (λ ss. AllZip (IsOf symbols rules F) ss (Child e ∷ Child next ∷ [])) (sym f) ((element, of, refl), (cell-left cell w next xs more, tt)))

  record InChain (n : ℕ) : Type 0 where
    cell : SymId
    list : ℕ
    elements : List ℕ
    cells : Cells cell list n elements

  not-cell : (n : ℕ) (r : FlatRule) → At n r → is_cell rules shapes r.left ≡ false → ¬ IsCell n
  not-cell n r at h c = true≢false (sym c.2 ∙ (ap (λ (z : FlatRule). is_cell rules shapes z.left) (one-rule rules F n c.0 r c.1 at) ∙ h))

  child-item : (is ws : List (Item V)) (k n : ℕ) → AreItems rules shapes F node_of is ws → slice_get is k ≡ Some (Child n) → (u : ℕ) × Stands n u
  child-item [] ws k n h e = absurd (none-some _ e)
  child-item (Child m ∷ is) [] k n h e = absurd h
  child-item (Leaf v ∷ is) [] k n h e = absurd h
  child-item (Child m ∷ is) (Leaf u ∷ ws) k n h e = absurd h
  child-item (Leaf v ∷ is) (Child u ∷ ws) k n h e = absurd h
  child-item (Child m ∷ is) (Child u ∷ ws) zero n h e = (u, subst (λ z. Stands z u) (same-child m n e) h.0)
  child-item (Leaf v ∷ is) (Leaf u ∷ ws) zero n h e = absurd (no-leaf v n e)
  child-item (Child m ∷ is) (Child u ∷ ws) (suc k) n h e = child-item is ws k n h.1 e
  child-item (Leaf v ∷ is) (Leaf u ∷ ws) (suc k) n h e = child-item is ws k n h.1 e

  one-of-two : (n e next k : ℕ) → ◌≡◌ {A = Option (Item V)} (slice_get (Child e ∷ Child next ∷ []) k) (Some (Child n)) → (e ≡ n) ⊎ (next ≡ n)
  one-of-two n e next zero f = inl (same-child e n f)
  one-of-two n e next (suc zero) f = inr (same-child next n f)
  one-of-two n e next (suc (suc k)) f = absurd (none-some _ f)

  only-one : (n d k : ℕ) → ◌≡◌ {A = Option (Item V)} (slice_get (Child d ∷ []) k) (Some (Child n)) → d ≡ n
  only-one n d zero f = same-child d n f
  only-one n d (suc k) f = absurd (none-some _ f)

  -- a cell under a cell, under a list, and under another node
  next-in : (n p k : ℕ) (cell : SymId) (w : ℕ) (xs : List ℕ) → IsCell n → Cells cell w p xs → slice_get (items_of F p) k ≡ Some (Child n) → InChain n
  next-in n p k cell w [] c (r, at, l, none, items, of) f = absurd (none-some _ (ap (λ is. slice_get is k) (sym items) ∙ f))
  next-in n p k cell w (x ∷ xs) c (r, element, e, next, at, of, l, right, items, w-of, stands, more) f = elim (one-of-two n e next k (ap (λ is. slice_get is k) (sym items) ∙ f)) [
    | inl s ↦ absurd (stands.0 (subst IsCell (sym s) c))
    | inr s ↦ record { cell = cell; list = w; elements = xs; cells = subst (λ z. Cells cell w z xs) s more }
  ]

  by-shape : (n p k w : ℕ) (x : Written p w) → IsCell n → slice_get (items_of F p) k ≡ Some (Child n) → (x.shape.list ≡ true) ⊎ (x.shape.list ≡ false) → InChain n
  by-shape n p k w x c f (inl yes-list) =
      let d = flat.list_nodes p w x.shape x.among x.stands x.at_flat yes-list in
      let s = only-one n d.0 k (ap (λ is. slice_get is k) (sym d.1) ∙ f) in
      record { cell = cell_of rules x.shape; list = w; elements = children W w; cells = subst (λ z. Cells (cell_of rules x.shape) w z (children W w)) s d.2 }
  by-shape n p k w x c f (inr no-list) =
      let d = flat.plain_nodes p w x.shape x.among x.stands x.at_flat no-list in
      let u = child-item (items_of F p) (items_of W w) k n d f in absurd (u.1.0 c)

  under : (n p k : ℕ) (r : FlatRule) → IsCell n → At p r → p < length F → slice_get (items_of F p) k ≡ Some (Child n) → (is_cell rules shapes r.left ≡ true) ⊎ (is_cell rules shapes r.left ≡ false)
      → (IsCell p → InChain p) → InChain n
  under n p k r c at inside f (inl is) above = let x = above (r, at, is) in next-in n p k x.cell x.list x.elements c x.cells f
  under n p k r c at inside f (inr is) above =
      let w = node-there p inside in
      let x = written p w.0 at.0 (not-cell p r at is, w.1) at.1 in
      by-shape n p k w.0 x c f (cases_Bool x.shape.list)

  -- each cell stands in the chain of a list
  in-chain : (fuel n : ℕ) → n ≤ fuel → n < length F → IsCell n → InChain n
  in-chain fuel zero l h c = absurd (flat.same_root.0 c)
  in-chain zero (suc m) l h c = absurd (omega arith)
  in-chain (suc fuel) (suc m) l h c =
      let e : m + 1 ≡ suc m = omega arith in
      let q = parent_there F flat.tree m (omega arith) in
      let up : parent_of F (suc m) ≡ Some q.0 = ap (λ z. parent_of F z) (sym e) ∙ q.1 in
      let k = child_of_parent F flat.tree (suc m) q.0 h up in
      let before = parent_before F flat.tree (suc m) q.0 up in
      let r = has-rule q.0 (omega arith) in
      under (suc m) q.0 k.0 r.0 c r.1 (omega arith) k.1 (cases_Bool (is_cell rules shapes r.0.left)) (λ d. in-chain fuel q.0 (omega arith) (omega arith) d)

  zip-items : (ss : List SymId) (is ws : List (Item V)) → AllZip (IsOf symbols rules W) ss ws → AreItems rules shapes F node_of is ws → AllZip (IsOf symbols rules F) ss is
  zip-items [] [] [] z a = tt
  zip-items [] is (w ∷ ws) z a = absurd z
  zip-items (s ∷ ss) is [] z a = absurd z
  zip-items [] (Child n ∷ is) [] z a = absurd a
  zip-items [] (Leaf v ∷ is) [] z a = absurd a
  zip-items (s ∷ ss) [] (Child u ∷ ws) z a = absurd a
  zip-items (s ∷ ss) [] (Leaf u ∷ ws) z a = absurd a
  zip-items (s ∷ ss) (Child n ∷ is) (Leaf u ∷ ws) z a = absurd a
  zip-items (s ∷ ss) (Leaf v ∷ is) (Child u ∷ ws) z a = absurd a
  zip-items (s ∷ ss) (Child n ∷ is) (Child u ∷ ws) z a = let h = z.0 in ((h.0, (h.1.0, flat.same_rules n u a.0 ∙ h.1.1, h.1.2), h.2), zip-items ss is ws z.1 a.1)
  zip-items (s ∷ ss) (Leaf v ∷ is) (Leaf u ∷ ws) z a = (z.0, zip-items ss is ws z.1 a.1)

  items-at : (n : ℕ) (r : FlatRule) → At n r → Grows r n
  items-at n r at = go (cases_Bool (is_cell rules shapes r.left))
    where
      inside : n < length F
      inside = rule-within F n at.0 at.1

      of-shape : (w : ℕ) (x : Written n w) → (x.shape.list ≡ true) ⊎ (x.shape.list ≡ false) → Grows x.rule n
      of-shape w x (inl yes-list) =
          let d = flat.list_nodes n w x.shape x.among x.stands x.at_flat yes-list in
          let leads : x.rule.right ≡ cell_of rules x.shape ∷ [] = sym (right-is rules x.shape x.rule x.is) ∙ (All-contains (λ shape. IsTrue shape.list → IsListShape symbols rules shape (cell_of rules shape)) shapes x.shape formed.each_list x.among yes-list).leads in
          subst (λ is. AllZip (IsOf symbols rules F) x.rule.right is) (sym d.1) (subst (λ ss. AllZip (IsOf symbols rules F) ss (Child d.0 ∷ [])) (sym leads) (cell-left (cell_of rules x.shape) w d.0 (children W w) d.2, tt))
      of-shape w x (inr no-list) =
          let d = flat.plain_nodes n w x.shape x.among x.stands x.at_flat no-list in
          let z = plain w x.shape (x.among, x.at_written) no-list in
          let right : x.shape.right ≡ x.rule.right = All-contains (λ shape. shape.list ≡ false → shape.right ≡ right_side rules shape) shapes x.shape formed.each_plain x.among no-list ∙ right-is rules x.shape x.rule x.is in
          subst (λ ss. AllZip (IsOf symbols rules F) ss (items_of F n)) right (zip-items x.shape.right (items_of F n) (items_of W w) z d)

      go : (is_cell rules shapes r.left ≡ true) ⊎ (is_cell rules shapes r.left ≡ false) → Grows r n
      go (inl is) = let x = in-chain n n (omega arith) inside (r, at, is) in cell-items x.cell x.list n x.elements x.cells r at
      go (inr is) =
          let w = node-there n inside in
          let x = written n w.0 at.0 (not-cell n r at is, w.1) at.1 in
          subst (λ (z : FlatRule). Grows z n) (one-rule rules F n x.rule r (written-at n w.0 x) at) (of-shape w.0 x (cases_Bool x.shape.list))

  pub is-grown : IsGrown symbols rules F root
  is-grown = record {
    tree = flat.tree;
    root_node = let h = root_node in (h.0, (h.1.0, flat.same_rules 0 0 flat.same_root ∙ h.1.1, h.1.2), h.2);
    nodes = has-rule;
    items = items-at;
  }

-- ---- fitting trees

-- what may stand for a symbol is of it
item-of : (symbols : List FlatSymbol) (rules : List FlatRule) (t : Tree Plain) (s : SymId) (p : Item Plain) → IsItem symbols rules t s p → IsOf symbols rules t s p
item-of symbols rules t s _ (node h) = h
item-of symbols rules t s _ (int h a b) = (h.0, h.1, ap is_some h.2)
item-of symbols rules t s _ (string h) = (h.0, h.1, ap is_some h.2)

items-of : (symbols : List FlatSymbol) (rules : List FlatRule) (t : Tree Plain) (ss : List SymId) (ps : List (Item Plain)) → AllZip (IsItem symbols rules t) ss ps → AllZip (IsOf symbols rules t) ss ps
items-of symbols rules t [] [] z = tt
items-of symbols rules t [] (p ∷ ps) z = absurd z
items-of symbols rules t (s ∷ ss) [] z = absurd z
items-of symbols rules t (s ∷ ss) (p ∷ ps) z = (item-of symbols rules t s p z.0, items-of symbols rules t ss ps z.1)

-- the flat tree of a fitting tree
pub fitting-grown : (symbols : List FlatSymbol) (rules : List FlatRule) (shapes : List Shape) (root : SymId) (W F : Tree Plain) (node_of : List ℕ)
    → IsWellFormed symbols rules shapes root → IsFitting symbols rules shapes root W → IsFlatTree rules shapes W F node_of → IsGrown symbols rules F root
fitting-grown symbols rules shapes root W F node_of formed fitting flat = is-grown symbols rules shapes root formed W F node_of flat fitting.root_node fitting.shaped
    (λ w shape has no-list. items-of symbols rules W shape.right (items_of W w) (fitting.plain w shape has no-list))

-- the same where terminals are made plain
module _ (symbols : List FlatSymbol) (rules : List FlatRule) (texts : List (List ℕ)) (W : Tree Value) where
  stored-items : (ss : List SymId) (ps : List (Item Value)) → AllZip (IsOf symbols rules (plain_tree texts W)) ss (map (plain_item texts) ps) → AllZip (IsOf symbols rules W) ss ps
  stored-items [] [] z = tt
  stored-items [] (p ∷ ps) z = absurd z
  stored-items (s ∷ ss) [] z = absurd z
  stored-items (s ∷ ss) (Child c ∷ ps) z = let h = z.0 in ((h.0, (h.1.0, sym (plain_rule texts W c) ∙ h.1.1, h.1.2), h.2), stored-items ss ps z.1)
  stored-items (s ∷ ss) (Leaf v ∷ ps) z = (z.0, stored-items ss ps z.1)

  pub stored-grown : (shapes : List Shape) (root : SymId) (F : Tree Value) (node_of : List ℕ)
      → IsWellFormed symbols rules shapes root → IsFitting symbols rules shapes root (plain_tree texts W) → IsFlatTree rules shapes W F node_of → IsGrown symbols rules F root
  stored-grown shapes root F node_of formed fitting flat = is-grown symbols rules shapes root formed W F node_of flat
      (let h = fitting.root_node in (h.0, (h.1.0, sym (plain_rule texts W 0) ∙ h.1.1, h.1.2), h.2))
      (λ w l. let h = fitting.shaped w (let e = plain_length texts W in omega arith) in (h.0, (h.1.0, sym (plain_rule texts W w) ∙ h.1.1)))
      (λ w shape has no-list. stored-items shape.right (items_of W w) (subst (λ ps. AllZip (IsOf symbols rules (plain_tree texts W)) shape.right ps) (plain_items texts W w)
      (items-of symbols rules (plain_tree texts W) shape.right (items_of (plain_tree texts W) w) (fitting.plain w shape (has.0, plain_rule texts W w ∙ has.1) no-list))))
