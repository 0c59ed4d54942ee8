-- The written trees that fit a flat grammar, and the sizes of their flat trees.
use Rattle.std.specs.Prelude.{◌≡◌, ℕ, suc, ◌+◌, ◌<◌, ◌≤◌, ◌≤ℤ◌, ◌<ℤ◌, ℤ, negsuc, pos, ◌-◌, ◌^◌, List, length, sum_by, Some, None, slice_get, true, false, Contains, All}
use Rattle.std.specs.List.{AllZip}
use Rattle.lido_base.specs.declared.ids.SymId.{SymId}
use Rattle.lido_base.specs.declared.value.ValueType.{ValueType}
use Rattle.lido_base.specs.declared.value.ValueType.TheVariants as type
use Rattle.lido_base.specs.declared.operation.Op.{Op}
use Rattle.lido_base.specs.declared.operation.Op.TheVariants as op
use Rattle.lido_base.specs.Plain.{Plain, Int, Str}
use Rattle.lido_base.specs.Tree.{Tree, Node, Item, Child, Leaf, IsTree, items_of, rule_at}
use Rattle.flat_grammar.specs.declared.flat.FlatSymbol.{FlatSymbol}
use Rattle.flat_grammar.specs.declared.flat.FlatRule.{FlatRule}
use Rattle.flat_grammar.specs.declared.flat.FlatComp.{FlatComp}
use Rattle.flat_grammar.specs.declared.flat.Shape.{Shape}
use Rattle.flat_grammar.specs.declared.flat.FlatExpr.{FlatExpr, Value, Terminal, Read, Coord, Apply', If', Order', Row_of-FlatExpr, end_of-FlatExpr, more_of-FlatExpr}
use Rattle.flat_grammar.specs.Rules.{attrs_of, HasRule}

-- the node names the rule of this shape
abbrev pub HasShape : {V : Type 0} → List Shape → Tree V → ℕ → Shape → Type 0
HasShape shapes t n shape = Contains shapes shape × (rule_at t n ≡ Some shape.rule.0)

-- the symbol stands on the left side of the node's rule
abbrev pub HasSymbol : {V : Type 0} → List FlatRule → Tree V → ℕ → SymId → Type 0
HasSymbol rules t n s = (r : FlatRule) × HasRule rules t n r × (r.left ≡ s)

-- the symbol is a terminal of this type
abbrev pub IsTerminal : List FlatSymbol → SymId → ValueType → Type 0
IsTerminal symbols s ty = (x : FlatSymbol) × (slice_get symbols s.0 ≡ Some x) × (x.terminal ≡ Some ty)

-- what may stand for the symbol: a node of it, a 64-bit number or a string
pub data IsItem (symbols : List FlatSymbol) (rules : List FlatRule) (t : Tree Plain) (s : SymId) : Item Plain → Type 0 where
  node : {c : ℕ} → HasSymbol rules t c s → IsItem symbols rules t s (Child c)
  int : {z : ℤ} → IsTerminal symbols s type.Int → negsuc (2 ^ 63 - 1) ≤ℤ z → z <ℤ pos (2 ^ 63) → IsItem symbols rules t s (Leaf (Int z))
  string : {bytes : List ℕ} → IsTerminal symbols s type.Str → IsItem symbols rules t s (Leaf (Str bytes))

-- node 0 has the root symbol, and each node's children are those that its rule allows: for a list any number of elements
pub record IsFitting (symbols : List FlatSymbol) (rules : List FlatRule) (shapes : List Shape) (root : SymId) (t : Tree Plain) : Type 0 where
  pub tree : IsTree t
  pub root_node : HasSymbol rules t 0 root
  pub shaped : (n : ℕ) → n < length t → (shape : Shape) × HasShape shapes t n shape
  pub plain : (n : ℕ) (shape : Shape) → HasShape shapes t n shape → shape.list ≡ false → AllZip (IsItem symbols rules t) shape.right (items_of t n)
  pub lists : (n : ℕ) (shape : Shape) → HasShape shapes t n shape → shape.list ≡ true → All (λ p. (s : SymId) × Contains shape.right s × IsItem symbols rules t s p) (items_of t n)

-- The text operations of an expression count one cell each, and one for each argument.
abbrev pub own_cells : Op → ℕ → ℕ
own_cells op.Numb k = suc k
own_cells op.AsIs k = suc k
own_cells op.Seq k = suc k
own_cells (op.Pattern p) k = suc k
own_cells _ k = 0

-- the text cells of an expression, both branches of an IF counted
abbrev mutual
  pub cells : FlatExpr → ℕ
  cells (Value v) = 0
  cells (Terminal k) = 0
  cells (Read o) = 0
  cells (Coord part) = 0
  cells (Apply' comp op shape args) = own_cells op (width args) + cells_of_all args
  cells (If' shape args) = cells_of_all args
  cells (Order' shape args) = cells_of_all args

  pub cells_of_all : {m : _} → Row_of-FlatExpr m → ℕ
  cells_of_all end_of-FlatExpr = 0
  cells_of_all (more_of-FlatExpr e es) = cells e + cells_of_all es

  pub width : {m : _} → Row_of-FlatExpr m → ℕ
  width end_of-FlatExpr = 0
  width (more_of-FlatExpr e es) = suc (width es)

module _ {V : Type 0} (symbols : List FlatSymbol) (rules : List FlatRule) (flat : Tree V) where
  -- a flat node's rule gives the number
  abbrev pub at_node : (FlatRule → ℕ) → ℕ → ℕ
  at_node f n = elim (slice_get rules n) [ None ↦ 0 | Some r ↦ f r ]

  -- how many instances the flat tree has: its nodes' attributes
  abbrev pub instances : ℕ
  instances = sum_by (λ (node : Node V). at_node (λ r. length (attrs_of symbols r.left)) node.rule) flat

  -- how many text cells its computations have
  abbrev pub text_cells : ℕ
  text_cells = sum_by (λ (node : Node V). at_node (λ r. sum_by (λ (c : FlatComp). cells c.value) r.comps) node.rule) flat

-- the most instances that a flat tree may have
abbrev pub most_instances : ℕ
most_instances = 4194304

-- the most text cells that a flat tree may have
abbrev pub most_text_cells : ℕ
most_text_cells = 16777216

-- the flat tree is within the limits on both
abbrev pub IsWithinLimits : {V : Type 0} → List FlatSymbol → List FlatRule → Tree V → Type 0
IsWithinLimits symbols rules flat = (instances symbols rules flat ≤ most_instances) × (text_cells symbols rules flat ≤ most_text_cells)
