-- Trees as tables: node n is entry n, the root is node 0, and the nodes are numbered in preorder. The abstract syntax tree
-- of an attribute grammar is one over its productions, and V is what a terminal is: a value, or a plain value.
use Rattle.std.specs.Prelude.{◌≡◌, ℕ, zero, suc, ◌+◌, ◌-◌, ◌<◌, List, [], ◌∷◌, ◌++◌, length, Option, Some, None, slice_get, option_and_then, option_map, filter_map, Bool, false, ◌||◌, ◌&&◌, IsTrue, nat_eq, nat_lt, Contains}
use Rattle.std.specs.List.{list_any}
use Rattle.std.specs.List.Sorted.{IsStrictlyIncreasing}
use Rattle.lido_base.specs.declared.kinds.CoordPart.{CoordPart}
use Rattle.lido_base.specs.declared.kinds.CoordPart.TheVariants.{Line, Col}

-- What stands at a place of a node: a child node, by its number, or a terminal.
pub data Item (V : Type 0) : Type 0 where
  Child : ℕ → Item V
  Leaf : V → Item V

-- A node: the number of its rule, its parent if it has one, its place among the parent's items, counted from 1 and 0 at the
-- root, its line and its column in the text that it stands for, and what stands at its own places.
pub record Node (V : Type 0) : Type 0 where
  pub rule : ℕ
  pub parent : Option ℕ
  pub place : ℕ
  pub line : ℕ
  pub column : ℕ
  pub items : List (Item V)

-- A tree: node n is entry n of the table.
abbrev pub Tree : Type 0 → Type 0
Tree V = List (Node V)

-- The node that the item is, if it is no terminal.
abbrev pub child_number : {V : Type 0} → Item V → Option ℕ
child_number (Child c) = Some c
child_number (Leaf v) = None

-- A test that the number is in the list.
abbrev pub contains : ℕ → List ℕ → Bool
contains x xs = list_any (nat_eq x) xs

-- A test that the option holds this number.
abbrev pub is_just : ℕ → Option ℕ → Bool
is_just n None = false
is_just n (Some m) = nat_eq m n

-- The function f with f n ≡ step f n, by so many turns: enough where each step asks at numbers that need fewer turns.
abbrev pub unroll : {X : Type 0} → X → ((ℕ → X) → ℕ → X) → ℕ → ℕ → X
unroll nothing step zero n = nothing
unroll nothing step (suc turns) n = step (unroll nothing step turns) n

-- A parent, and what is above it.
abbrev pub and_above : (ℕ → List ℕ) → Option ℕ → List ℕ
and_above above None = []
and_above above (Some p) = p ∷ above p

module _ {V : Type 0} (t : Tree V) where
  -- The number of a node's rule.
  abbrev pub rule_at : ℕ → Option ℕ
  rule_at n = option_map (λ (node : Node V). node.rule) (slice_get t n)

  -- The parent of a node, if it has one.
  abbrev pub parent_of : ℕ → Option ℕ
  parent_of n = option_and_then (λ (node : Node V). node.parent) (slice_get t n)

  -- The place of a node among its parent's items, counted from 1, and 0 at the root.
  abbrev pub place_of : ℕ → ℕ
  place_of n = elim (slice_get t n) [ None ↦ 0 | Some node ↦ node.place ]

  -- The line of a node; 0 where there is no node.
  abbrev pub line_of : ℕ → ℕ
  line_of n = elim (slice_get t n) [ None ↦ 0 | Some node ↦ node.line ]

  -- The column of a node; 0 where there is no node.
  abbrev pub column_of : ℕ → ℕ
  column_of n = elim (slice_get t n) [ None ↦ 0 | Some node ↦ node.column ]

  -- The line or the column of a node.
  abbrev pub coordinate : ℕ → CoordPart → ℕ
  coordinate n Line = line_of n
  coordinate n Col = column_of n

  -- What stands at a node's places, in order.
  abbrev pub items_of : ℕ → List (Item V)
  items_of n = elim (slice_get t n) [ None ↦ [] | Some node ↦ node.items ]

  -- The item at a place of node n, counted from 1.
  abbrev pub item_at : ℕ → ℕ → Option (Item V)
  item_at n zero = None
  item_at n (suc k) = slice_get (items_of n) k

  -- A child node stands at this place of node n.
  abbrev pub IsNode : ℕ → ℕ → Type 0
  IsNode n place = (c : ℕ) × (item_at n place ≡ Some (Child c))

  -- The child nodes, in order.
  abbrev pub children : ℕ → List ℕ
  children n = filter_map child_number (items_of n)

  -- The strict ancestors of a node, the nearest first: those that INCLUDING looks at. Nothing at a node without a parent;
  -- `p ∷ ancestors p` at a child of p.
  unfoldable pub ancestors : ℕ → List ℕ
  ancestors n = unroll [] (λ above m. and_above above (parent_of m)) n n

  -- The function with f n ≡ step f n at each node n, for a step that asks at the children of n alone.
  unfoldable pub from_children : {X : Type 0} → X → ((ℕ → X) → ℕ → X) → ℕ → X
  from_children nothing step n = unroll nothing step (length t - n) n

  -- The step asks at a node's children alone: where two functions agree there, it gives the same.
  abbrev pub AsksBelow : {X : Type 0} → ((ℕ → X) → ℕ → X) → Type 0
  AsksBelow {X} step = (n : ℕ) (f g : ℕ → X) → ((c : ℕ) → Contains (children n) c → f c ≡ g c) → step f n ≡ step g n

  -- The parent of the node behind n, as preorder has it: n, or an ancestor of n.
  abbrev pub continues : ℕ → Option ℕ → Bool
  continues n None = false
  continues n (Some p) = nat_eq p n || contains p (ancestors n)

  -- A table is a tree with its nodes in preorder where parents, children and places agree. Each fact is an order, an
  -- equation or a test, so that a type can keep it.
  pub record IsTree : Type 0 where
    pub has_root : 0 < length t
    pub root_first : parent_of 0 ≡ None
    pub root_place : place_of 0 ≡ 0
    pub in_preorder : (n : ℕ) → n + 1 < length t → IsTrue (continues n (parent_of (n + 1)))
    -- c is a child of n exactly where it is a node and its parent is n
    pub items_agree : (n c : ℕ) → contains c (children n) ≡ (nat_lt c (length t) && is_just n (parent_of c))
    pub children_ascend : (n : ℕ) → IsStrictlyIncreasing (children n)
    pub places_agree : (n k c : ℕ) → item_at n (suc k) ≡ Some (Child c) → place_of c ≡ suc k

-- How many items node n has.
abbrev pub places : {V : Type 0} → Tree V → ℕ → ℕ
places t n = length (items_of t n)

-- The tree with one more item behind those of node n.
abbrev pub with_item : {V : Type 0} → Tree V → ℕ → Item V → Tree V
with_item [] n x = []
with_item (node ∷ t) zero x = record node { items = node.items ++ x ∷ [] } ∷ t
with_item (node ∷ t) (suc n) x = node ∷ with_item t n x

-- The tree with one more node, of this rule, behind the items of this parent, and with this line and column.
abbrev pub with_node : {V : Type 0} → Tree V → ℕ → Option ℕ → ℕ → ℕ → Tree V
with_node t rule None line column = t ++ record { rule = rule; parent = None; place = 0; line = line; column = column; items = [] } ∷ []
with_node t rule (Some p) line column =
    with_item t p (Child (length t)) ++ record { rule = rule; parent = Some p; place = places t p + 1; line = line; column = column; items = [] } ∷ []
