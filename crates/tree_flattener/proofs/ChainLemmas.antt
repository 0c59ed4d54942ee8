-- Chains of cells: a further cell, the end cell, and which nodes are open.
use Rattle.std.specs.Prelude.{slice_get}
use Rattle.std.proofs.Common.{◌≡◌, ℕ, suc, ◌<◌, ◌≤◌, List, [], ◌∷◌, ◌++◌, length, Some, refl, ap, sym, subst, ◌∙◌, arith}
use Rattle.lido_base.specs.declared.ids.SymId.{SymId}
use Rattle.lido_base.specs.declared.value.Value.{Value}
use Rattle.lido_base.specs.Tree.{Item, Child, IsTree, parent_of, items_of, places}
use Rattle.flat_grammar.specs.declared.flat.FlatSymbol.{FlatSymbol}
use Rattle.flat_grammar.specs.declared.flat.FlatRule.{FlatRule}
use Rattle.flat_grammar.specs.declared.flat.Shape.{Shape}
use Rattle.flat_grammar.specs.FlatTrees.{AreCells}
use Rattle.tree_store.specs.Growth.{IsOpen}
use Rattle.tree_store.proofs.GrowthLemmas.{get_last}
use Rattle.tree_store.proofs.OpenLemmas.{open_upwards}
use Rattle.tree_flattener.specs.Drafts.{Table, Grows, IsCellOf, IsChain}
use Rattle.lido_base.proofs.PathLemmas.{child_parent, with_parent_inside}
use Rattle.tree_flattener.proofs.GrowLemmas.{cell_grows}

module _ (symbols : List FlatSymbol) (rules : List FlatRule) (shapes : List Shape) (W F : Table) (node_of : List ℕ) (cell : SymId) (w tail : ℕ) where
  abbrev Chain : ℕ → List (Item Value) → List ℕ → Type 0
  Chain p before xs = IsChain symbols rules shapes W F node_of cell w p before xs tail

  chain_below : (p : ℕ) (before : List (Item Value)) (xs : List ℕ) → Chain p before xs → p ≤ tail
  chain_below p before [] h = let e = h.0 in omega arith
  chain_below p before (x ∷ xs) (c, e, items, of, lt, k, rest) = let h = chain_below c (Child e ∷ []) xs rest in omega arith

  -- the last cell belongs to the list, and has one item at most
  pub chain_last : (p : ℕ) (before : List (Item Value)) (xs : List ℕ) → length before ≤ 1 → Chain p before xs → (slice_get node_of tail ≡ Some w) × (places F tail ≤ 1)
  chain_last p before [] short (same, items, of) = (ap (slice_get node_of) (sym same) ∙ of, omega (arith, ap length items, ap (places F) same, short))
  chain_last p before (x ∷ xs) short (c, e, items, of, lt, k, rest) = chain_last c (Child e ∷ []) xs (omega arith) rest

  -- where its last cell is open, each node of a chain is open, also once there are more nodes
  pub chain_open : IsTree F → (G : Table) → IsTree G → ((n : ℕ) → n < length F → parent_of G n ≡ parent_of F n) → (p : ℕ) (before : List (Item Value)) (xs : List ℕ) → Chain p before xs → IsOpen G tail → IsOpen G p
  chain_open tree G grown same p before [] h open_tail = subst (IsOpen G) (sym h.0) open_tail
  chain_open tree G grown same p before (x ∷ xs) (c, e, items, of, lt, k, rest) open_tail =
      let below = chain_open tree G grown same c (Child e ∷ []) xs rest open_tail in
      let up = child_parent F tree p (suc (length before)) c (ap (λ is. slice_get is (length before)) items ∙ get_last before (Child c) (length before) refl) in
      open_upwards G grown c p below (same c (with_parent_inside F c p up) ∙ up)

  module _ (each : length node_of ≡ length F) (G : Table) (more : List ℕ) (g : Grows w F node_of G more) (c : ℕ)
      (there : items_of G tail ≡ items_of F tail ++ Child c ∷ []) (others : (n : ℕ) → (tail ≡ n → ⊥) → n < length F → items_of G n ≡ items_of F n) where
    at_tail : (p : ℕ) (before : List (Item Value)) → p ≡ tail → items_of F p ≡ before → items_of G p ≡ before ++ Child c ∷ []
    at_tail p before same items = ap (items_of G) same ∙ there ∙ ap (λ is. is ++ Child c ∷ []) (ap (items_of F) (sym same) ∙ items)

    -- a cell behind the last one
    pub chain_more : (e x : ℕ) → tail < c → tail < length F → IsCellOf symbols rules shapes W G more cell w c e x → items_of G c ≡ Child e ∷ [] → (p : ℕ) (before : List (Item Value)) (xs : List ℕ) → Chain p before xs
        → IsChain symbols rules shapes W G more cell w p before (xs ++ x ∷ []) c
    chain_more e x behind inside new items_c p before [] (same, items, of) = (c, e, at_tail p before same items, g.nodes p w of, omega arith, new, (refl, items_c, new.of_list))
    chain_more e x behind inside new items_c p before (y ∷ ys) (d, f, items, of, lt, k, rest) = let low = chain_below d (Child f ∷ []) ys rest in
        (d, f, others p (λ same. omega arith) (omega arith) ∙ items, g.nodes p w of, lt, cell_grows symbols rules shapes W F node_of each w G more g cell w d f y k, chain_more e x behind inside new items_c d (Child f ∷ []) ys rest)

    -- the end cell behind the last one
    pub chain_end : tail < length F → AreCells rules shapes G more cell w c [] → (p : ℕ) (before : List (Item Value)) (xs : List ℕ) → Chain p before xs
        → (d : ℕ) × (items_of G p ≡ before ++ Child d ∷ []) × AreCells rules shapes G more cell w d xs
    chain_end inside new p before [] (same, items, of) = (c, at_tail p before same items, new)
    chain_end inside new p before (y ∷ ys) (d, f, items, of, lt, k, rest) = let low = chain_below d (Child f ∷ []) ys rest in
        let on = chain_end inside new d (Child f ∷ []) ys rest in
        let grown = cell_grows symbols rules shapes W F node_of each w G more g cell w d f y k in
        (d, others p (λ same. omega arith) (omega arith) ∙ items, (grown.rule, grown.element, f, on.0, grown.has_rule, grown.has_element, grown.left, grown.right, on.1, grown.of_list, grown.stands, on.2))
