-- The attributions of a flat tree: the solutions of all its attribute equations.
use Rattle.std.specs.Prelude.{◌≡◌, ℕ, ◌↔◌, true, pos, List, [], ◌∷◌, Option, Some, None, IsSome, slice_get, unwrap_or, Contains}
use Rattle.lido_base.specs.declared.value.BadKind.{BadKind}
use Rattle.lido_base.specs.declared.value.Origin.{Origin}
use Rattle.lido_base.specs.Environment.{Environment}
use Rattle.lido_base.specs.Plain.{Plain, Void, Int, Bad, plain}
use Rattle.lido_base.specs.Operations.{operate, unless_bad, kept, chosen, last}
use Rattle.lido_base.specs.Origins.{IsAtMost}
use Rattle.lido_base.specs.Tree.{Tree, Item, Leaf, item_at, coordinate}
use Rattle.flat_grammar.specs.declared.flat.FlatRule.{FlatRule}
use Rattle.flat_grammar.specs.declared.flat.FlatComp.{FlatComp}
use Rattle.flat_grammar.specs.declared.flat.FlatSymbol.{FlatSymbol}
use Rattle.flat_grammar.specs.declared.flat.FlatAttr.{FlatAttr}
use Rattle.flat_grammar.specs.declared.flat.FlatExpr.{FlatExpr, Value as Constant, Terminal, Read, Coord, Apply', If', Order', Row_of-FlatExpr, end_of-FlatExpr, more_of-FlatExpr}
use Rattle.flat_grammar.specs.Rules.{attrs_of, HasRule}
use Rattle.flat_grammar.specs.WellFormed.{attribute_of}
use Rattle.flat_grammar.specs.WholeOrder.{Instance, node_at}
use Rattle.flat_grammar.specs.Instances.{IsInstance, instance_at}

-- the value of the terminal that stands there
abbrev pub leaf_or : Option (Item Plain) → Plain
leaf_or (Some (Leaf v)) = v
leaf_or _ = Void

-- For a computation at node n: what ids and names stand for, the tree, the written node of each flat node, what stands at an
-- instance, and the node of origin.
module _ (env : Environment) (t : Tree Plain) (node_of : List ℕ) (B : Instance → Plain) (origin n : ℕ) where
  -- what an operation gives that fails
  abbrev pub fails : ℕ → BadKind → Plain
  fails comp kind = Bad (record { node = unwrap_or (slice_get node_of origin) 0; comp = comp; kind = kind })

  -- the value of an expression
  abbrev mutual
    pub value_of : FlatExpr → Plain
    value_of (Constant v) = plain env.texts v
    value_of (Terminal k) = leaf_or (item_at t n k)
    value_of (Read o) = B (instance_at t n o)
    value_of (Coord part) = Int (pos (coordinate t origin part))
    value_of (Apply' comp op shape args) = operate env.texts env.patterns (fails comp) op (values_of args)
    value_of (If' shape args) = chosen (values_of args)
    value_of (Order' shape args) = unless_bad (values_of args) (last (values_of args))

    pub values_of : {m : _} → Row_of-FlatExpr m → List Plain
    values_of end_of-FlatExpr = []
    values_of (more_of-FlatExpr e es) = value_of e ∷ values_of es

-- what an attribute keeps of a value: a VOID one keeps a Bad alone
abbrev pub as_typed : Option FlatAttr → Plain → Plain
as_typed (Some attr) v = kept attr.ty v
as_typed None v = v

-- exactly the instances have a value, each that of its computation at its node
pub record IsFlatAttribution (symbols : List FlatSymbol) (rules : List FlatRule) (env : Environment) (t : Tree Plain) (node_of : List ℕ) (B : Instance → Option Plain) : Type 0 where
  pub domain : (i : Instance) → IsSome (B i) ↔ IsInstance symbols rules t i
  pub values : (n : ℕ) (r : FlatRule) (c : FlatComp) → HasRule rules t n r → Contains r.comps c
      → B (instance_at t n c.goal) ≡ Some (as_typed (attribute_of symbols r c.goal) (value_of env t node_of (λ i. unwrap_or (B i) Void) (node_at t n c.origin) n c.value))

module _ {V : Type 0} (symbols : List FlatSymbol) (rules : List FlatRule) (t : Tree V) (B : Instance → Option Plain) where
  -- an attribute that is marked as written went wrong there
  abbrev pub IsFaultyAt : Origin → Type 0
  IsFaultyAt o = (n a : ℕ) × (r : FlatRule) × (attr : FlatAttr) × HasRule rules t n r × (slice_get (attrs_of symbols r.left) a ≡ Some attr)
      × (attr.written ≡ true) × (B (n, a) ≡ Some (Bad o))

  -- the least origin of such a fault
  abbrev pub IsLeastFault : Origin → Type 0
  IsLeastFault o = IsFaultyAt o × ((p : Origin) → IsFaultyAt p → IsAtMost o p)
