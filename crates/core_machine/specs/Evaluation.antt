-- What a flat computation gives in a region, with ids and descriptors: a value, and the room's deposits afterwards. Arguments are
-- evaluated from the left, each before its operation; of an IF the branch that is chosen alone.
use Rattle.std.specs.Prelude.{◌≡◌, ℕ, List, Option, Some, None}
use Rattle.lido_base.specs.declared.value.Value.{Value}
use Rattle.lido_base.specs.declared.value.Value.TheVariants as value
use Rattle.lido_base.specs.declared.value.ValueType.TheVariants as type
use Rattle.lido_base.specs.declared.pattern.Pattern.{Pattern}
use Rattle.lido_base.specs.Tree.{Tree, Item, Leaf, item_at, coordinate}
use Rattle.string_librarian.specs.Rooms.{Deposit}
pub use Rattle.expression_values.specs.Evaluate.{last_value, in_order, in_turn, decided}
use Rattle.expression_values.specs.Evaluate.{evaluate as value_of, evaluate_all as values_of, evaluate_if as if_of, evaluate_at as branch_of}
use Rattle.lido_base.specs.declared.kinds.CoordPart.{CoordPart}
use Rattle.flat_grammar.specs.declared.flat.Occ.{Occ}
use Rattle.flat_grammar.specs.declared.flat.FlatAttr.{FlatAttr}
use Rattle.flat_grammar.specs.declared.flat.FlatExpr.{FlatExpr, Value as Constant, Terminal, Read, Coord, Apply', If', Order', Row_of-FlatExpr, end_of-FlatExpr, more_of-FlatExpr}
use Rattle.flat_grammar.specs.WholeOrder.{Instance}
use Rattle.flat_grammar.specs.Instances.{instance_at}

-- the value of the terminal that stands there
abbrev pub leaf_value : Option (Item Value) → Value
leaf_value (Some (Leaf v)) = v
leaf_value _ = value.Void

-- For a computation at node n of a region: the number of its room, the tree, the written node of what fails, the node of origin,
-- and the values of instances.
module _ (texts : List (List ℕ)) (patterns : List Pattern) (number : ℕ) (t : Tree Value) (written origin n : ℕ) (values : Instance → Value) where
  abbrev leaf : ℕ → Value
  leaf k = leaf_value (item_at t n k)

  abbrev read : Occ → Value
  read o = values (instance_at t n o)

  abbrev coord : CoordPart → ℕ
  coord part = coordinate t origin part

  -- the value of an expression, and the deposits behind it
  abbrev pub evaluate : FlatExpr → List Deposit → Value × List Deposit
  evaluate = value_of texts patterns number written leaf read coord

  abbrev pub evaluate_all : {m : _} → Row_of-FlatExpr m → List Deposit → List Value × List Deposit
  evaluate_all {m} es ds = values_of texts patterns number written leaf read coord es ds

  abbrev pub evaluate_if : {m : _} → Row_of-FlatExpr m → List Deposit → Value × List Deposit
  evaluate_if {m} es ds = if_of texts patterns number written leaf read coord es ds

  abbrev pub evaluate_at : {m : _} → Row_of-FlatExpr m → ℕ → List Deposit → Value × List Deposit
  evaluate_at {m} es k ds = branch_of texts patterns number written leaf read coord es k ds

-- what an attribute keeps of a value: a VOID one keeps a Bad alone
abbrev pub kept_value : Option FlatAttr → Value → Value
kept_value None v = v
kept_value (Some attr) v = elim attr.ty [ type.Void ↦ elim v [ value.Bad o ↦ value.Bad o | _ ↦ value.Void ] | _ ↦ v ]

-- a built text is the empty one
abbrev pub IsConstant : Value → Type 0
IsConstant (value.Text d) = d ≡ record { room = 0; node = 0; len = 0 }
IsConstant _ = Unit {0}

-- the value is no built text
abbrev pub IsNoText : Value → Type 0
IsNoText (value.Text d) = ⊥
IsNoText _ = Unit {0}

-- of the constants in an expression the empty text is the only built one
abbrev mutual
  pub HasConstants : FlatExpr → Type 0
  HasConstants (Constant v) = IsConstant v
  HasConstants (Terminal k) = Unit {0}
  HasConstants (Read o) = Unit {0}
  HasConstants (Coord part) = Unit {0}
  HasConstants (Apply' comp op shape args) = HaveConstants args
  HasConstants (If' shape args) = HaveConstants args
  HasConstants (Order' shape args) = HaveConstants args

  pub HaveConstants : {m : _} → Row_of-FlatExpr m → Type 0
  HaveConstants end_of-FlatExpr = Unit {0}
  HaveConstants (more_of-FlatExpr e es) = HasConstants e × HaveConstants es
