-- Where a tree is split: at large subtrees of named symbols. Our own rule.
use Rattle.std.specs.Prelude.{ℕ, suc, ◌-◌, Bool, false, not, ◌&&◌, List, map, sum, take, filter, length, Option, Some, None, nat_le, option_and_then, option_map, slice_get, unwrap_or}
use Rattle.std.specs.List.{list_any, range_with_len}
use Rattle.lido_base.specs.declared.ids.SymId.{SymId}
use Rattle.lido_base.specs.Tree.{Tree, children, from_children, rule_at}
use Rattle.flat_grammar.specs.declared.flat.FlatSymbol.{FlatSymbol}
use Rattle.flat_grammar.specs.declared.flat.FlatRule.{FlatRule}
use Rattle.flat_grammar.specs.declared.flat.Shape.{Shape}
use Rattle.flat_grammar.specs.FlatTrees.{is_cell}
use Rattle.flat_grammar.specs.WellFormed.{is_same_symbol}

-- How many nodes the subtree of a node has: the node, and those of its children's subtrees.
abbrev pub subtree_size : {V : Type 0} → Tree V → ℕ → ℕ
subtree_size t = from_children t 0 (λ size n. suc (sum (map size (children t n))))

-- The symbol of a node, on the left side of its rule.
abbrev pub symbol_of : {V : Type 0} → List FlatRule → Tree V → ℕ → Option SymId
symbol_of rules t n = option_map (λ (r : FlatRule). r.left) (option_and_then (slice_get rules) (rule_at t n))

-- At most so many nodes are split nodes, so that there are 64 regions at most.
abbrev pub most_split_nodes : ℕ
most_split_nodes = 63

module _ (symbols : List FlatSymbol) (rules : List FlatRule) (shapes : List Shape) (names : List SymId) where
  -- A test that the symbol is named and no cell: a cell's node stands for no written node.
  abbrev pub is_split_symbol : SymId → Bool
  is_split_symbol s = list_any (is_same_symbol s) names && not (is_cell rules shapes s)

  module _ {V W : Type 0} (min : ℕ) (written : Tree V) (flat : Tree W) (node_of : List ℕ) where
    -- A test that the flat node stands for a written node of a named symbol whose subtree has so many written nodes at least.
    abbrev pub is_splittable : ℕ → Bool
    is_splittable n = elim (symbol_of rules flat n) [ None ↦ false | Some s ↦ is_split_symbol s ] && nat_le min (subtree_size written (unwrap_or (slice_get node_of n) 0))

    -- The split nodes: the first of these in preorder, without the root.
    abbrev pub split_nodes : List ℕ
    split_nodes = take most_split_nodes (filter is_splittable (range_with_len 1 (length flat - 1)))
