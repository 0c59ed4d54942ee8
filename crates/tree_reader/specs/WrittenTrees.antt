-- What a bracketed tree means over a flat grammar: the first fault of its nodes from the left, or the written tree as a table.
use Rattle.std.specs.Prelude.{◌+◌, ℕ, zero, suc, Bool, nat_le, if◌then◌else◌, List, [], ◌∷◌, ◌++◌, length, Option, Some, None, Result, Ok, Err}
use Rattle.lido_base.specs.Plain.{Plain, Int, Str}
use Rattle.lido_base.specs.Tree.{Tree, Node, Item, Child, Leaf, line_of, column_of, places}
use Rattle.lido_base.specs.declared.kinds.Many.TheVariants as many
use Rattle.lido_base.specs.declared.value.ValueType.{ValueType}
use Rattle.lido_base.specs.declared.value.ValueType.TheVariants as type
use Rattle.tree_store.specs.declared.fault.TreeFault.{TreeFault}
use Rattle.tree_store.specs.declared.fault.TreeFault.TheVariants as fault
use Rattle.tree_reader.specs.declared.part.Coordinates.{Coordinates}
use Rattle.tree_reader.specs.Language.{Forest, none, node, int, string}

-- the most nodes that a written tree may have
abbrev pub most_nodes : ℕ
most_nodes = 1048576

-- ---- the written tree

-- How many nodes there are among the siblings and below them.
abbrev pub count : Forest → ℕ
count none = 0
count (node at name_at name coordinates below end after) = suc (count below + count after)
count (int at value after) = count after
count (string at text after) = count after

-- The line and the column of a node.
abbrev pub coordinates_of : {V : Type 0} → Tree V → ℕ → Coordinates
coordinates_of t n = record { line = line_of t n; column = column_of t n }

-- The coordinates above node 0.
abbrev pub no_coordinates : Coordinates
no_coordinates = record { line = 0; column = 0 }

-- The coordinates of a node: those written behind its name, else those of the node above.
abbrev pub own : Option Coordinates → Coordinates → Coordinates
own None above = above
own (Some c) above = c

-- A node of the table.
abbrev pub table_node : ℕ → Option ℕ → ℕ → Coordinates → List (Item Plain) → Node Plain
table_node rule parent place c items = record { rule = rule; parent = parent; place = place; line = c.line; column = c.column; items = items }

-- The first fault if there is one, else the second.
abbrev pub first_of : Option TreeFault → Option TreeFault → Option TreeFault
first_of None later = later
first_of (Some e) later = Some e

-- The table, unless there is a fault.
abbrev pub unless_fault : Tree Plain → Option TreeFault → Result (Tree Plain) TreeFault
unless_fault t None = Ok t
unless_fault t (Some e) = Err e

-- The items go behind those of node p
abbrev pub add_items : {V : Type 0} → Tree V → ℕ → List (Item V) → Tree V
add_items [] p more = []
add_items (n ∷ t) zero more = record n { items = n.items ++ more } ∷ t
add_items (n ∷ t) (suc p) more = n ∷ add_items t p more

-- An open node: its number, its shape, the children that are still to come, and the place of its closing bracket
pub record Frame (S : Type 0) : Type 0 where
  pub at : ℕ
  pub shape : S
  pub rest : Forest
  pub close : ℕ

-- A grammar, as far as reading a tree asks: the shape that a name names, if it names one; the number of a shape's rule; the shape
-- of node 0; the shapes, and the types of terminals, that child k of a node may have, counted from 0; and whether so many children
-- are enough.
pub record Asked (S : Type 0) : Type 0 where
  pub named : List ℕ → Option S
  pub rule : S → ℕ
  pub is_root : S → Bool
  pub takes : S → ℕ → S → Bool
  pub takes_value : S → ℕ → ValueType → Bool
  pub is_enough : S → ℕ → Bool

module _ {S : Type 0} (g : Asked S) where
  -- The number of the rule of this name.
  abbrev pub rule_named : List ℕ → ℕ
  rule_named name = elim (g.named name) [ None ↦ 0 | Some x ↦ g.rule x ]

  -- The siblings as items of their parent, whose first node has the number n.
  abbrev pub items : ℕ → Forest → List (Item Plain)
  items n none = []
  items n (node at name_at name coordinates below end after) = Child n ∷ items (suc (n + count below)) after
  items n (int at value after) = Leaf (Int value) ∷ items n after
  items n (string at text after) = Leaf (Str text) ∷ items n after

  -- The nodes among the siblings and below them in preorder, numbered from n. Their parent is p, with these coordinates, and the
  -- first sibling is its child k.
  abbrev pub nodes : ℕ → ℕ → ℕ → Coordinates → Forest → Tree Plain
  nodes n p k above none = []
  nodes n p k above (node at name_at name coordinates below end after) =
      table_node (rule_named name) (Some p) (suc k) (own coordinates above) (items (suc n) below)
      ∷ (nodes (suc n) n 0 (own coordinates above) below ++ nodes (suc (n + count below)) p (suc k) above after)
  nodes n p k above (int at value after) = nodes n p (suc k) above after
  nodes n p k above (string at text after) = nodes n p (suc k) above after

  -- The first fault of the siblings that are the children of a node from child k on, where n nodes stand before them, and whose
  -- closing bracket is at `close`.
  abbrev pub fault_among : S → ℕ → ℕ → Forest → ℕ → Option TreeFault
  fault_among s k n none close = if g.is_enough s k then None else Some (fault.WrongChild close)
  fault_among s k n (int at value after) close = if g.takes_value s k type.Int then fault_among s (suc k) n after close else Some (fault.WrongChild at)
  fault_among s k n (string at text after) close = if g.takes_value s k type.Str then fault_among s (suc k) n after close else Some (fault.WrongChild at)
  fault_among s k n (node at name_at name coordinates below end after) close = elim (g.named name) [
    | None ↦ Some (fault.UnknownRule name_at)
    | Some x ↦ if g.takes s k x
        then (if nat_le most_nodes n then Some (fault.TooMany many.Nodes) else first_of (fault_among x 0 (suc n) below end) (fault_among s (suc k) (suc (n + count below)) after close))
        else Some (fault.WrongChild at)
  ]

  -- What a tree means: its first fault from the left, or its table.
  abbrev pub meaning : ℕ → List ℕ → Option Coordinates → Forest → ℕ → Result (Tree Plain) TreeFault
  meaning name_at name coordinates below end = elim (g.named name) [
    | None ↦ Err (fault.UnknownRule name_at)
    | Some x ↦ if g.is_root x
        then unless_fault (table_node (g.rule x) None 0 (own coordinates no_coordinates) (items 1 below) ∷ nodes 1 0 0 (own coordinates no_coordinates) below) (fault_among x 0 1 below end)
        else Err (fault.WrongRoot name_at)
  ]

  -- What a node is refused for, beside what stands below and behind it.
  abbrev pub node_fault : S → ℕ → ℕ → ℕ → ℕ → List ℕ → Option TreeFault
  node_fault s k n at name_at name = elim (g.named name) [
    | None ↦ Some (fault.UnknownRule name_at)
    | Some x ↦ if g.takes s k x then (if nat_le most_nodes n then Some (fault.TooMany many.Nodes) else None) else Some (fault.WrongChild at)
  ]

  -- The table with the siblings as further children of node p.
  abbrev pub fill : Tree Plain → ℕ → Forest → Tree Plain
  fill t p f = add_items t p (items (length t) f) ++ nodes (length t) p (places t p) (coordinates_of t p) f

  -- What comes of a table, where these nodes are open.
  abbrev pub resume : List (Frame S) → Tree Plain → Result (Tree Plain) TreeFault
  resume [] t = Ok t
  resume (f ∷ fs) t = elim (fault_among f.shape (places t f.at) (length t) f.rest f.close) [ None ↦ resume fs (fill t f.at f.rest) | Some e ↦ Err e ]
