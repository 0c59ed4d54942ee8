-- The flat tree of the first nodes of a written tree, as far as it is made.
use Rattle.std.specs.Prelude.{◌≡◌, ℕ, suc, ◌+◌, ◌*◌, ◌<◌, ◌≤◌, ◌⊎◌, Bool, true, false, List, [], ◌∷◌, ◌++◌, length, take, filter_map, Option, Some, slice_get, Contains, IsTrue}
use Rattle.lido_base.specs.declared.ids.SymId.{SymId}
use Rattle.lido_base.specs.declared.value.Value.{Value}
use Rattle.lido_base.specs.Tree.{Tree, Item, Child, IsTree, rule_at, parent_of, place_of, line_of, column_of, items_of, item_at, children, child_number, ancestors, with_node}
use Rattle.lido_base.specs.Subtrees.{IsInSubtree}
use Rattle.flat_grammar.specs.declared.flat.FlatSymbol.{FlatSymbol}
use Rattle.flat_grammar.specs.declared.flat.FlatRule.{FlatRule}
use Rattle.flat_grammar.specs.declared.flat.Shape.{Shape}
use Rattle.flat_grammar.specs.Rules.{HasRule}
use Rattle.flat_grammar.specs.WellFormed.{cell_of}
use Rattle.flat_grammar.specs.FlatTrees.{IsNodeOf, AreItems, AreCells, is_cell}
use Rattle.tree_store.specs.Growth.{IsOpen}
use Rattle.tree_flattener.specs.declared.draft.Draft.{Draft}
use Rattle.tree_flattener.specs.declared.draft.Spot.{Spot}

-- a tree of stored values
abbrev pub Table : Type 0
Table = Tree Value

-- the most nodes that a written tree may have
abbrev pub most_nodes : ℕ
most_nodes = 1048576

-- the flat tree is that tree with one node more, of this rule and behind the items of this parent
abbrev pub IsGrown : Table → ℕ → Option ℕ → Table → Type 0
IsGrown F rule parent G = (line : ℕ) × (column : ℕ) × (G ≡ with_node F rule parent line column)

-- each flat node has the line and the column of its written node, a cell those of its list
pub record IsPlaced (W F : Table) (node_of : List ℕ) : Type 0 where
  pub each : length node_of ≡ length F
  pub lines : (n w : ℕ) → slice_get node_of n ≡ Some w → line_of F n ≡ line_of W w
  pub columns : (n w : ℕ) → slice_get node_of n ≡ Some w → column_of F n ≡ column_of W w

-- q is the node or one of its ancestors
abbrev pub IsOnPath : Table → ℕ → ℕ → Type 0
IsOnPath W n q = IsInSubtree W q n

-- more items were added to flat nodes of written node m alone, and more flat nodes
pub record Grows (m : ℕ) (F : Table) (node_of : List ℕ) (G : Table) (more : List ℕ) : Type 0 where
  pub longer : length F ≤ length G
  pub nodes : (n w : ℕ) → slice_get node_of n ≡ Some w → slice_get more n ≡ Some w
  pub rules : (n : ℕ) → n < length F → rule_at G n ≡ rule_at F n
  pub parents : (n : ℕ) → n < length F → parent_of G n ≡ parent_of F n
  pub items : (n w : ℕ) → slice_get node_of n ≡ Some w → (w ≡ m → ⊥) → items_of G n ≡ items_of F n

-- more terminals were added to the flat node p, and nothing else
pub record Fills (F G : Table) (p : ℕ) : Type 0 where
  pub count : length G ≡ length F
  pub rules : (n : ℕ) → rule_at G n ≡ rule_at F n
  pub parents : (n : ℕ) → parent_of G n ≡ parent_of F n
  pub items : (n : ℕ) → (p ≡ n → ⊥) → items_of G n ≡ items_of F n
  pub opened : (n : ℕ) → IsOpen F n → IsOpen G n
  pub tree : IsTree G

module _ (symbols : List FlatSymbol) (rules : List FlatRule) (shapes : List Shape) (W : Table) where
  -- the written tree suits the grammar: each node has a shape, and as many items, or elements of symbols, as it asks for
  pub record Suits : Type 0 where
    pub tree : IsTree W
    pub shaped : (n : ℕ) → n < length W → (shape : Shape) × Contains shapes shape × (rule_at W n ≡ Some shape.rule.0)
    pub ruled : (n : ℕ) → n < length W → (r : FlatRule) × HasRule rules W n r × (is_cell rules shapes r.left ≡ false)
    pub few : (n : ℕ) (shape : Shape) → Contains shapes shape → rule_at W n ≡ Some shape.rule.0 → shape.list ≡ false → (length (items_of W n) ≡ length shape.right) × (length shape.right < 65536)
    pub cells : (n : ℕ) (shape : Shape) → Contains shapes shape → rule_at W n ≡ Some shape.rule.0 → shape.list ≡ true → IsTrue (is_cell rules shapes (cell_of rules shape))
    pub elements : (n k : ℕ) (x : Item Value) (shape : Shape) → Contains shapes shape → rule_at W n ≡ Some shape.rule.0 → shape.list ≡ true → slice_get (items_of W n) k ≡ Some x
        → (c : ℕ) × (x ≡ Child c) × ((r : FlatRule) → HasRule rules W c r → (i : ℕ) × (q : FlatRule) × (slice_get rules i ≡ Some q) × (q.left ≡ cell_of rules shape) × (q.right ≡ r.left ∷ cell_of rules shape ∷ []))

  module _ (F : Table) (node_of : List ℕ) where
    -- flat node c is a cell of written node w, and its element e stands for written node x
    pub record IsCellOf (cell : SymId) (w c e x : ℕ) : Type 0 where
      pub rule : FlatRule
      pub element : FlatRule
      pub has_rule : HasRule rules F c rule
      pub has_element : HasRule rules F e element
      pub left : rule.left ≡ cell
      pub right : rule.right ≡ element.left ∷ cell ∷ []
      pub of_list : slice_get node_of c ≡ Some w
      pub stands : IsNodeOf rules shapes F node_of e x

    -- From flat node p, which has these items before, a chain of cells of written node w goes on with these elements up to the
    -- cell `tail`, which gets the next one.
    abbrev pub IsChain : SymId → ℕ → ℕ → List (Item Value) → List ℕ → ℕ → Type 0
    IsChain cell w p before [] tail = (p ≡ tail) × (items_of F p ≡ before) × (slice_get node_of p ≡ Some w)
    IsChain cell w p before (x ∷ xs) tail = (c : ℕ) × (e : ℕ) × (items_of F p ≡ before ++ Child c ∷ []) × (slice_get node_of p ≡ Some w) × (p < c) × IsCellOf cell w c e x × IsChain cell w c (Child e ∷ []) xs tail

    -- the first items of written node w stand below its flat node f, and `tail` gets the next one: for a list its last cell
    abbrev pub IsUpToAs : Bool → SymId → ℕ → ℕ → ℕ → ℕ → Type 0
    IsUpToAs false cell w f done tail = (tail ≡ f) × AreItems rules shapes F node_of (items_of F f) (take done (items_of W w))
    IsUpToAs true cell w f done tail = IsChain cell w f [] (filter_map child_number (take done (items_of W w))) tail

    -- all items of written node w stand below its flat node f
    abbrev pub IsWholeAs : Bool → SymId → ℕ → ℕ → Type 0
    IsWholeAs false cell w f = AreItems rules shapes F node_of (items_of F f) (items_of W w)
    IsWholeAs true cell w f = (c : ℕ) × (items_of F f ≡ Child c ∷ []) × AreCells rules shapes F node_of cell w c (children W w)

    module _ (flat_of : List ℕ) where
      abbrev pub IsUpTo : ℕ → ℕ → ℕ → Type 0
      IsUpTo w done tail = (shape : Shape) (f : ℕ) → Contains shapes shape → rule_at W w ≡ Some shape.rule.0 → slice_get flat_of w ≡ Some f → IsUpToAs shape.list (cell_of rules shape) w f done tail

      abbrev pub IsWhole : ℕ → Type 0
      IsWhole w = (shape : Shape) (f : ℕ) → Contains shapes shape → rule_at W w ≡ Some shape.rule.0 → slice_get flat_of w ≡ Some f → IsWholeAs shape.list (cell_of rules shape) w f

      -- Each written node has one flat node that is no cell, and these stand in the same order.
      pub record IsNumbered : Type 0 where
        pub tree : IsTree F
        pub each_node : length node_of ≡ length F
        pub known : (w n : ℕ) → slice_get flat_of w ≡ Some n → IsNodeOf rules shapes F node_of n w × (rule_at F n ≡ rule_at W w)
        pub only : (n w : ℕ) → IsNodeOf rules shapes F node_of n w → slice_get flat_of w ≡ Some n
        pub rising : (w x n m : ℕ) → slice_get flat_of w ≡ Some n → slice_get flat_of x ≡ Some m → w < x → n < m
        pub root : slice_get flat_of 0 ≡ Some 0
        pub inside : (n w : ℕ) → slice_get node_of n ≡ Some w → w < length flat_of

      -- The first v written nodes have their flat nodes. The spot is at an open node: those on the path to it are done up to their
      -- last child, and the others are whole.
      pub record IsDraft (v node tail done : ℕ) : Type 0 where
        pub numbered : IsNumbered
        pub count : length flat_of ≡ v
        pub last : (l : ℕ) × (v ≡ suc l) × IsOnPath W l node
        pub few : length F + suc (length (ancestors W node)) ≤ 3 * v
        pub before : (k c : ℕ) → item_at W node k ≡ Some (Child c) → k ≤ done → c < v
        pub behind : (k c : ℕ) → item_at W node k ≡ Some (Child c) → done < k → v ≤ c
        pub reach : done ≤ length (items_of W node)
        pub open_tail : IsOpen F tail
        pub top : IsUpTo node done tail
        pub edges : (q w f t : ℕ) → IsOnPath W node q → parent_of W q ≡ Some w → slice_get flat_of q ≡ Some f → parent_of F f ≡ Some t → IsUpTo w (place_of W q) t
        pub closed : (w : ℕ) → w < v → (IsOnPath W node w → ⊥) → IsWhole w

  -- A flat node f for written node n was added behind the items of its parent m.
  pub record IsAttached (F : Table) (node_of flat_of : List ℕ) (G : Table) (more : List ℕ) (m n f : ℕ) : Type 0 where
    pub tree : IsTree G
    pub each_node : length more ≡ length G
    pub grows : Grows m F node_of G more
    pub few : length G ≤ length F + 2
    pub new : IsNodeOf rules shapes G more f n
    pub rule : rule_at G f ≡ rule_at W n
    pub behind : length F ≤ f
    pub open_new : IsOpen G f
    pub empty : items_of G f ≡ []
    pub only : (k w : ℕ) → length F ≤ k → IsNodeOf rules shapes G more k w → (k ≡ f) × (w ≡ n)
    pub inside : (k w : ℕ) → length F ≤ k → slice_get more k ≡ Some w → (w ≡ m) ⊎ (w ≡ n)
    pub link : (t : ℕ) → parent_of G f ≡ Some t → IsUpTo G more flat_of m (place_of W n) t

  -- All items of written node m are there.
  pub record IsClosed (F : Table) (node_of flat_of : List ℕ) (G : Table) (more : List ℕ) (m : ℕ) : Type 0 where
    pub tree : IsTree G
    pub each_node : length more ≡ length G
    pub grows : Grows m F node_of G more
    pub few : length G ≤ length F + 1
    pub only : (k w : ℕ) → length F ≤ k → IsNodeOf rules shapes G more k w → ⊥
    pub inside : (k w : ℕ) → length F ≤ k → slice_get more k ≡ Some w → w ≡ m
    pub whole : IsWhole G more flat_of m
    pub open_node : (f : ℕ) → slice_get flat_of m ≡ Some f → IsOpen G f

  -- the draft of a tree that suits the grammar, with the spot at one of its nodes
  pub record IsWalk (state : Draft) (at : Spot) : Type 0 where
    pub suits : Suits
    pub few : length W ≤ most_nodes
    pub within : length state.flat_of ≤ length W
    pub draft : IsDraft state.flat state.node_of state.flat_of (length state.flat_of) at.node at.tail at.done

  -- the shapes of node m have this quality
  abbrev pub HasForm : (Shape → Type 0) → ℕ → Type 0
  HasForm P m = (shape : Shape) → Contains shapes shape → rule_at W m ≡ Some shape.rule.0 → P shape
