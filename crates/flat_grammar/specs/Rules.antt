-- Occurrences, attributes and computations of a flat rule.
use Rattle.std.specs.Prelude.{◌≡◌, ℕ, List, [], ◌∷◌, ◌++◌, Option, Some, None, slice_get, option_and_then}
use Rattle.lido_base.specs.Tree.{Tree, rule_at}
use Rattle.lido_base.specs.declared.ids.SymId.{SymId}
use Rattle.lido_base.specs.declared.ids.AttrId.{AttrId}
use Rattle.flat_grammar.specs.declared.flat.Occ.{Occ}
use Rattle.flat_grammar.specs.declared.flat.FlatSymbol.{FlatSymbol}
use Rattle.flat_grammar.specs.declared.flat.FlatAttr.{FlatAttr}
use Rattle.flat_grammar.specs.declared.flat.FlatRule.{FlatRule}
use Rattle.flat_grammar.specs.declared.flat.FlatComp.{FlatComp}
use Rattle.flat_grammar.specs.declared.flat.FlatExpr.{FlatExpr, Value, Terminal, Read, Coord, Apply', If', Order', Row_of-FlatExpr, end_of-FlatExpr, more_of-FlatExpr}

-- the left side is occurrence 0, and the right side's symbols follow
abbrev pub symbols_of : FlatRule → List SymId
symbols_of r = r.left ∷ r.right

-- the symbol at an occurrence
abbrev pub symbol_at : FlatRule → ℕ → Option SymId
symbol_at r k = slice_get (symbols_of r) k

-- the symbol's attribute of that number
abbrev pub attribute_at : List FlatSymbol → SymId → AttrId → Option FlatAttr
attribute_at symbols s a = option_and_then (λ (x : FlatSymbol). slice_get x.attrs a.0) (slice_get symbols s.0)

-- the attributes of a symbol
abbrev pub attrs_of : List FlatSymbol → SymId → List FlatAttr
attrs_of symbols s = elim (slice_get symbols s.0) [ None ↦ [] | Some x ↦ x.attrs ]

-- all attribute occurrences that the expression reads, in both branches of an IF
abbrev mutual
  pub reads : FlatExpr → List Occ
  reads (Value v) = []
  reads (Terminal k) = []
  reads (Read o) = o ∷ []
  reads (Coord part) = []
  reads (Apply' comp op shape args) = reads_of_all args
  reads (If' shape args) = reads_of_all args
  reads (Order' shape args) = reads_of_all args

  pub reads_of_all : {m : _} → Row_of-FlatExpr m → List Occ
  reads_of_all end_of-FlatExpr = []
  reads_of_all (more_of-FlatExpr e es) = reads e ++ reads_of_all es

-- the occurrences whose terminals the expression uses
abbrev mutual
  pub terminals_of : FlatExpr → List ℕ
  terminals_of (Value v) = []
  terminals_of (Terminal k) = k ∷ []
  terminals_of (Read o) = []
  terminals_of (Coord part) = []
  terminals_of (Apply' comp op shape args) = terminals_of_all args
  terminals_of (If' shape args) = terminals_of_all args
  terminals_of (Order' shape args) = terminals_of_all args

  pub terminals_of_all : {m : _} → Row_of-FlatExpr m → List ℕ
  terminals_of_all end_of-FlatExpr = []
  terminals_of_all (more_of-FlatExpr e es) = terminals_of e ++ terminals_of_all es

-- what must have its value before the computation: its reads, and what stands behind `<-`
abbrev pub dependencies : FlatComp → List Occ
dependencies c = reads c.value ++ c.after

-- the node of a tree is one of this rule
abbrev pub HasRule : {V : Type 0} → List FlatRule → Tree V → ℕ → FlatRule → Type 0
HasRule rules t n r = (i : ℕ) × (rule_at t n ≡ Some i) × (slice_get rules i ≡ Some r)
