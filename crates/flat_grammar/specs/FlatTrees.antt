-- The flat tree of a written tree: under each list node stands a chain of cells, each with one element and the next cell, the
-- last with nothing; a cell has its list's line and column. Our own normal form of lists.
use Rattle.std.specs.Prelude.{◌≡◌, ℕ, ◌<◌, Bool, true, false, ◌&&◌, IsTrue, List, [], ◌∷◌, length, Some, slice_get, Contains}
use Rattle.std.specs.List.{list_any}
use Rattle.lido_base.specs.declared.ids.SymId.{SymId}
use Rattle.lido_base.specs.Tree.{Tree, Item, Child, Leaf, IsTree, rule_at, line_of, column_of, items_of, children}
use Rattle.flat_grammar.specs.declared.flat.FlatRule.{FlatRule}
use Rattle.flat_grammar.specs.declared.flat.Shape.{Shape}
use Rattle.flat_grammar.specs.Rules.{HasRule}
use Rattle.flat_grammar.specs.WellFormed.{cell_of, is_same_symbol}

module _ (rules : List FlatRule) (shapes : List Shape) where
  -- the symbol is the cell of some list
  abbrev pub is_cell : SymId → Bool
  is_cell s = list_any (λ shape. shape.list && is_same_symbol s (cell_of rules shape)) shapes

  module _ {V : Type 0} (flat : Tree V) where
    -- flat node n is a cell
    abbrev pub IsCellNode : ℕ → Type 0
    IsCellNode n = (r : FlatRule) × HasRule rules flat n r × IsTrue (is_cell r.left)

  module _ {V : Type 0} (flat : Tree V) (node_of : List ℕ) where
    -- flat node n is no cell, and is written node w
    abbrev pub IsNodeOf : ℕ → ℕ → Type 0
    IsNodeOf n w = ¬ IsCellNode flat n × (slice_get node_of n ≡ Some w)

    -- the cells from c on have these written nodes as elements, and belong to list node w
    abbrev pub AreCells : SymId → ℕ → ℕ → List ℕ → Type 0
    AreCells cell w c [] = (r : FlatRule) × HasRule rules flat c r × (r.left ≡ cell) × (r.right ≡ []) × (items_of flat c ≡ []) × (slice_get node_of c ≡ Some w)
    AreCells cell w c (x ∷ xs) = (r : FlatRule) × (element : FlatRule) × (e : ℕ) × (next : ℕ)
        × HasRule rules flat c r × HasRule rules flat e element × (r.left ≡ cell) × (r.right ≡ element.left ∷ cell ∷ [])
        × (items_of flat c ≡ Child e ∷ Child next ∷ []) × (slice_get node_of c ≡ Some w) × IsNodeOf e x × AreCells cell w next xs

    -- the items are each other's
    abbrev pub AreItems : List (Item V) → List (Item V) → Type 0
    AreItems [] [] = Unit {0}
    AreItems (Child n ∷ more) (Child w ∷ rest) = IsNodeOf n w × AreItems more rest
    AreItems (Leaf v ∷ more) (Leaf u ∷ rest) = (v ≡ u) × AreItems more rest
    AreItems _ _ = ⊥

-- `flat` is the flat tree of `written`, and the numbers give the written node of each flat node, a cell's being its list's.
pub record IsFlatTree {V : Type 0} (rules : List FlatRule) (shapes : List Shape) (written flat : Tree V) (node_of : List ℕ) : Type 0 where
  pub tree : IsTree flat
  pub each_node : length node_of ≡ length flat
  pub same_root : IsNodeOf rules shapes flat node_of 0 0
  -- each written node has one flat node, and these stand in the same order
  pub in_order : (n m w x : ℕ) → IsNodeOf rules shapes flat node_of n w → IsNodeOf rules shapes flat node_of m x → n < m → w < x
  pub all_written : (w : ℕ) → w < length written → (n : ℕ) × IsNodeOf rules shapes flat node_of n w
  pub same_rules : (n w : ℕ) → IsNodeOf rules shapes flat node_of n w → rule_at flat n ≡ rule_at written w
  -- each has the line and the column of its written node, a cell those of its list
  pub same_lines : (n w : ℕ) → slice_get node_of n ≡ Some w → line_of flat n ≡ line_of written w
  pub same_columns : (n w : ℕ) → slice_get node_of n ≡ Some w → column_of flat n ≡ column_of written w
  pub plain_nodes : (n w : ℕ) (shape : Shape) → Contains shapes shape → IsNodeOf rules shapes flat node_of n w → rule_at flat n ≡ Some shape.rule.0 → shape.list ≡ false → AreItems rules shapes flat node_of (items_of flat n) (items_of written w)
  pub list_nodes : (n w : ℕ) (shape : Shape) → Contains shapes shape → IsNodeOf rules shapes flat node_of n w → rule_at flat n ≡ Some shape.rule.0 → shape.list ≡ true
      → (c : ℕ) × (items_of flat n ≡ Child c ∷ []) × AreCells rules shapes flat node_of (cell_of rules shape) w c (children written w)
