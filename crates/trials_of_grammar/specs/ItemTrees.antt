-- Written and flat trees of the list of items: (rTop@1:1 (rItem@3:7 5) (rItem 6)), and ones in which something is wrong.
use Rattle.std.specs.Prelude.{ℕ, pos, List, [], ◌∷◌, Option, Some, None, slice_get, option_and_then}
use Rattle.lido_base.specs.declared.value.BadKind.TheVariants.{Overflow}
use Rattle.lido_base.specs.declared.value.Origin.{Origin}
use Rattle.lido_base.specs.Environment.{Environment}
use Rattle.lido_base.specs.Plain.{Plain, Int, Text, Bad}
use Rattle.lido_base.specs.Tree.{Tree, Node, Item, Child, Leaf}
use Rattle.flat_grammar.specs.WholeOrder.{Instance}

abbrev pub node : ℕ → Option ℕ → ℕ → List (Item Plain) → Node Plain
node rule parent place items = record { rule = rule; parent = parent; place = place; line = 0; column = 0; items = items }

-- the node with this line and column
abbrev pub at : ℕ → ℕ → Node Plain → Node Plain
at line column n = record n { line = line; column = column }

abbrev pub number : ℕ → Item Plain
number n = Leaf (Int (pos n))

abbrev pub two_items : Tree Plain
two_items =
    at 1 1 (node 0 None 0 (Child 1 ∷ Child 2 ∷ []))
    ∷ at 3 7 (node 1 (Some 0) 1 (number 5 ∷ []))
    ∷ at 1 1 (node 1 (Some 0) 2 (number 6 ∷ []))
    ∷ []

-- two cells and the end cell, the first one with this line and column
abbrev pub cells_at : ℕ → ℕ → Tree Plain
cells_at line column =
    at 1 1 (node 0 None 0 (Child 1 ∷ []))
    ∷ at line column (node 2 (Some 0) 1 (Child 2 ∷ Child 3 ∷ []))
    ∷ at 3 7 (node 1 (Some 1) 1 (number 5 ∷ []))
    ∷ at 1 1 (node 2 (Some 1) 2 (Child 4 ∷ Child 5 ∷ []))
    ∷ at 1 1 (node 1 (Some 3) 1 (number 6 ∷ []))
    ∷ at 1 1 (node 3 (Some 3) 2 [])
    ∷ []

-- the same, each cell with the line and the column of the list
abbrev pub two_cells : Tree Plain
two_cells = cells_at 1 1

abbrev pub node_of_two : List ℕ
node_of_two = 0 ∷ 0 ∷ 1 ∷ 0 ∷ 2 ∷ 0 ∷ []

-- the end cell is left out
abbrev pub no_end : Tree Plain
no_end =
    node 0 None 0 (Child 1 ∷ [])
    ∷ node 2 (Some 0) 1 (Child 2 ∷ Child 3 ∷ [])
    ∷ node 1 (Some 1) 1 (number 5 ∷ [])
    ∷ node 2 (Some 1) 2 (Child 4 ∷ [])
    ∷ node 1 (Some 3) 1 (number 6 ∷ [])
    ∷ []

abbrev pub node_of_no_end : List ℕ
node_of_no_end = 0 ∷ 0 ∷ 1 ∷ 0 ∷ 2 ∷ []

-- (rTop (rTop)): the element is no item
abbrev pub list_in_list : Tree Plain
list_in_list = node 0 None 0 (Child 1 ∷ []) ∷ node 0 (Some 0) 1 [] ∷ []

-- what the instances of the two cells' tree have, node by node
abbrev pub sums : List (List Plain)
sums =
    (Text (49 ∷ 49 ∷ []) ∷ [])
    ∷ (Int (pos 11) ∷ [])
    ∷ (Int (pos 5) ∷ Int (pos 5) ∷ [])
    ∷ (Int (pos 6) ∷ [])
    ∷ (Int (pos 6) ∷ Int (pos 6) ∷ [])
    ∷ (Int (pos 0) ∷ [])
    ∷ []

-- the first cell forgets its element
abbrev pub wrong_sums : List (List Plain)
wrong_sums =
    (Text (54 ∷ []) ∷ [])
    ∷ (Int (pos 6) ∷ [])
    ∷ (Int (pos 5) ∷ Int (pos 5) ∷ [])
    ∷ (Int (pos 6) ∷ [])
    ∷ (Int (pos 6) ∷ Int (pos 6) ∷ [])
    ∷ (Int (pos 0) ∷ [])
    ∷ []

abbrev pub in_table : List (List Plain) → Instance → Option Plain
in_table rows i = option_and_then (λ (row : List Plain). slice_get row i.1) (slice_get rows i.0)

-- no texts and no patterns
abbrev pub no_names : Environment
no_names = record { texts = []; patterns = [] }

abbrev pub overflow : ℕ → ℕ → Origin
overflow n comp = record { node = n; comp = comp; kind = Overflow }

-- some instances have Bad values: $out and both n, which are written, and the first cell's $con1, which is not
abbrev pub faulty : List (List Plain)
faulty =
    (Bad (overflow 1 2) ∷ [])
    ∷ (Bad (overflow 0 1) ∷ [])
    ∷ (Bad (overflow 1 2) ∷ Int (pos 5) ∷ [])
    ∷ (Int (pos 6) ∷ [])
    ∷ (Bad (overflow 2 2) ∷ Int (pos 6) ∷ [])
    ∷ (Int (pos 0) ∷ [])
    ∷ []
