-- The roles of flat nodes: what a node stands for settles its rule and its items.
use Rattle.std.specs.Prelude.{Contains, slice_get, true, false, Bool}
use Rattle.std.proofs.Common.{◌≡◌, ℕ, zero, suc, ◌<◌, List, [], ◌∷◌, length, Some, refl, ap, sym, subst, ◌∙◌, arith}
use Rattle.std.proofs.lemmas.Option.{slice_get_within}
use Rattle.lido_base.specs.declared.ids.SymId.{SymId}
use Rattle.lido_base.specs.Tree.{Tree, Item, Child, Leaf, rule_at, items_of, children}
use Rattle.flat_grammar.specs.declared.flat.FlatSymbol.{FlatSymbol}
use Rattle.flat_grammar.specs.declared.flat.FlatRule.{FlatRule}
use Rattle.flat_grammar.specs.declared.flat.Shape.{Shape}
use Rattle.flat_grammar.specs.Rules.{HasRule}
use Rattle.flat_grammar.specs.WellFormed.{cell_of, IsListShape}
use Rattle.flat_grammar.specs.FlatTrees.{IsNodeOf, AreCells, AreItems, IsFlatTree}
use Rattle.tree_flattener.proofs.OnePathLemmas.{rule_there, rule_inside, same_held}
use Rattle.tree_flattener.proofs.OneRuleLemmas.{one_cell_rule}

module _ (symbols : List FlatSymbol) (rules : List FlatRule) (shapes : List Shape) {V : Type 0} (W F G : Tree V) (ns ms : List ℕ) where
  -- Flat node n of F and flat node m of G have the same role: they stand for one written node, or are cells of one list node
  -- with the same elements from there on.
  pub data IsAlike : ℕ → ℕ → Type 0 where
    written : {n m : ℕ} (w : ℕ) → IsNodeOf rules shapes F ns n w → IsNodeOf rules shapes G ms m w → IsAlike n m
    cell : {n m : ℕ} (shape : Shape) (w : ℕ) (xs : List ℕ) → Contains shapes shape → shape.list ≡ true
        → AreCells rules shapes F ns (cell_of rules shape) w n xs
        → AreCells rules shapes G ms (cell_of rules shape) w m xs → IsAlike n m

  -- the items are the same terminal, or nodes with the same role
  abbrev pub IsAlikeItem : Item V → Item V → Type 0
  IsAlikeItem (Child n) (Child m) = IsAlike n m
  IsAlikeItem (Leaf v) (Leaf u) = v ≡ u
  IsAlikeItem _ _ = ⊥

  -- there is a like item at this place
  abbrev pub Has : List (Item V) → ℕ → Item V → Type 0
  Has js k x = (y : Item V) × (slice_get js k ≡ Some y) × IsAlikeItem x y

  -- each of the items has one like it at its place
  abbrev pub HasAll : List (Item V) → List (Item V) → Type 0
  HasAll is js = (k : ℕ) (x : Item V) → slice_get is k ≡ Some x → Has js k x

  no_items : (js : List (Item V)) → HasAll [] js
  no_items js k x e = cc

  more_items : (a b : Item V) (is js : List (Item V)) → IsAlikeItem a b → HasAll is js → HasAll (a ∷ is) (b ∷ js)
  more_items a b is js h all zero x e = (b, refl, subst (λ z. IsAlikeItem z b) (same_held a x refl e) h)
  more_items a b is js h all (suc k) x e = all k x e

  -- items that stand for the same are alike
  alike_items : (is js ws : List (Item V)) → AreItems rules shapes F ns is ws → AreItems rules shapes G ms js ws → HasAll is js
  alike_items [] js ws h i = no_items js
  alike_items (Child n ∷ is) js [] h i = absurd h
  alike_items (Child n ∷ is) js (Leaf u ∷ ws) h i = absurd h
  alike_items (Leaf v ∷ is) js [] h i = absurd h
  alike_items (Leaf v ∷ is) js (Child w ∷ ws) h i = absurd h
  alike_items (Child n ∷ is) [] (Child w ∷ ws) h i = absurd i
  alike_items (Child n ∷ is) (Leaf u ∷ js) (Child w ∷ ws) h i = absurd i
  alike_items (Leaf v ∷ is) [] (Leaf u ∷ ws) h i = absurd i
  alike_items (Leaf v ∷ is) (Child m ∷ js) (Leaf u ∷ ws) h i = absurd i
  alike_items (Child n ∷ is) (Child m ∷ js) (Child w ∷ ws) h i =
      more_items (Child n) (Child m) is js (written w h.0 i.0) (alike_items is js ws h.1 i.1)
  alike_items (Leaf v ∷ is) (Leaf u ∷ js) (Leaf x ∷ ws) h i = more_items (Leaf v) (Leaf u) is js (h.0 ∙ sym i.0) (alike_items is js ws h.1 i.1)

  cell_number : (T : Tree V) (xs : List ℕ) (c : SymId) (w n : ℕ) (elements : List ℕ) → AreCells rules shapes T xs c w n elements
      → slice_get xs n ≡ Some w
  cell_number T xs c w n [] (r, has, left, right, none, of) = of
  cell_number T xs c w n (x ∷ elements) (r, element, e, next, has, has_element, left, right, items, of, stands, rest) = of

  -- nodes with the same role have the same written node
  pub alike_numbers : (n m : ℕ) → IsAlike n m → (w : ℕ) × (slice_get ns n ≡ Some w) × (slice_get ms m ≡ Some w)
  alike_numbers n m (written w s t) = (w, s.1, t.1)
  alike_numbers n m (cell shape w xs among list s t) =
      (w, cell_number F ns (cell_of rules shape) w n xs s, cell_number G ms (cell_of rules shape) w m xs t)

  module _ (shaped : (w : ℕ) → w < length W → (shape : Shape) × Contains shapes shape × (rule_at W w ≡ Some shape.rule.0))
      (lists : (shape : Shape) → Contains shapes shape → shape.list ≡ true → IsListShape symbols rules shape (cell_of rules shape))
      (f : IsFlatTree rules shapes W F ns) (g : IsFlatTree rules shapes W G ms) where
    -- and are nodes of their trees
    pub alike_inside : (n m : ℕ) → IsAlike n m → (n < length F) × (m < length G)
    alike_inside n m a = let (w, e, h) = alike_numbers n m a in let i = slice_get_within ns n w e in let j = slice_get_within ms m w h in
        let k = f.each_node in let l = g.each_node in (omega arith, omega arith)

    -- the same rule, where the right sides of two cells agree
    cells_rule : (shape : Shape) → Contains shapes shape → shape.list ≡ true → (n m : ℕ) (r q : FlatRule) → HasRule rules F n r → HasRule rules G m q
        → r.left ≡ cell_of rules shape → q.left ≡ cell_of rules shape → r.right ≡ q.right → rule_at F n ≡ rule_at G m
    cells_rule shape among list n m r q (i, at, e) (j, other, h) left right same =
        at ∙ ap Some (one_cell_rule symbols rules shape (cell_of rules shape) (lists shape among list) i j r q e h left right same)
        ∙ sym other

    stands_rule : (n m w : ℕ) → IsNodeOf rules shapes F ns n w → IsNodeOf rules shapes G ms m w → rule_at F n ≡ rule_at G m
    stands_rule n m w s t = f.same_rules n w s ∙ sym (g.same_rules m w t)

    -- a rule that both nodes have
    same_rule : (n m : ℕ) (r q : FlatRule) → rule_at F n ≡ rule_at G m → HasRule rules F n r → HasRule rules G m q → r ≡ q
    same_rule n m r q same (i, at, e) (j, other, h) = let k : i ≡ j = same_held i j at (same ∙ other) in same_held r q e (ap (slice_get rules) k ∙ h)

    -- nodes with the same role have the same rule
    pub alike_rule : (n m : ℕ) → IsAlike n m → rule_at F n ≡ rule_at G m
    alike_rule n m (written w s t) = stands_rule n m w s t
    alike_rule n m (cell shape w [] among list (r, has, left, right, none, of) (q, other, left', right', none', of')) =
        cells_rule shape among list n m r q has other left left' (right ∙ sym right')
    alike_rule n m (cell shape w (x ∷ xs) among list (r, element, e, next, has, has_element, left, right, items, of, stands, rest)
        (q, element', e', next', has', has_element', left', right', items', of', stands', rest')) =
        let same = same_rule e e' element element' (stands_rule e e' x stands stands') has_element has_element' in
        cells_rule shape among list n m r q has has' left left'
        (right ∙ ap (λ (p : FlatRule). p.left ∷ cell_of rules shape ∷ []) same ∙ sym right')

    -- and like items
    pub alike_all : (n m : ℕ) → IsAlike n m → HasAll (items_of F n) (items_of G m)
    alike_all n m (cell shape w [] among list (r, has, left, right, none, of) t) =
        subst (λ is. HasAll is (items_of G m)) (sym none) (no_items (items_of G m))
    alike_all n m (cell shape w (x ∷ xs) among list (r, element, e, next, has, has_element, left, right, items, of, stands, rest)
        (q, element', e', next', has', has_element', left', right', items', of', stands', rest')) =
        subst (λ is. HasAll is (items_of G m)) (sym items) (subst (HasAll (Child e ∷ Child next ∷ [])) (sym items')
        (more_items (Child e) (Child e') (Child next ∷ []) (Child next' ∷ []) (written x stands stands')
        (more_items (Child next) (Child next') [] [] (cell shape w xs among list rest rest') (no_items []))))
    alike_all n m (written w s t) = let inside = (alike_inside n m (written w s t)).0 in let rule = rule_there F n inside in
        let of_w : rule_at W w ≡ Some rule.0 = sym (f.same_rules n w s) ∙ rule.1 in
        let (shape, among, at) = shaped w (rule_inside W w rule.0 of_w) in go shape among at shape.list refl
      where
        go : (shape : Shape) → Contains shapes shape → rule_at W w ≡ Some shape.rule.0 → (list : Bool) → shape.list ≡ list
            → HasAll (items_of F n) (items_of G m)
        go shape among at false plain = alike_items (items_of F n) (items_of G m) (items_of W w)
            (f.plain_nodes n w shape among s (f.same_rules n w s ∙ at) plain) (g.plain_nodes m w shape among t (g.same_rules m w t ∙ at) plain)
        go shape among at true list = let (c, one, cells) = f.list_nodes n w shape among s (f.same_rules n w s ∙ at) list in
            let (d, one', cells') = g.list_nodes m w shape among t (g.same_rules m w t ∙ at) list in
            subst (λ is. HasAll is (items_of G m)) (sym one)
            (subst (HasAll (Child c ∷ [])) (sym one')
            (more_items (Child c) (Child d) [] [] (cell shape w (children W w) among list cells cells') (no_items [])))

-- the roles of G's nodes and F's
pub alike_back : (symbols : List FlatSymbol) (rules : List FlatRule) (shapes : List Shape) {V : Type 0} (W F G : Tree V) (ns ms : List ℕ)
    (n m : ℕ) → IsAlike symbols rules shapes W F G ns ms n m → IsAlike symbols rules shapes W G F ms ns m n
alike_back symbols rules shapes W F G ns ms n m (written w s t) = written w t s
alike_back symbols rules shapes W F G ns ms n m (cell shape w xs among list s t) = cell shape w xs among list t s
