-- What an expression reads by itself, and its size.
use Rattle.std.specs.Prelude.{ℕ, suc, ◌+◌, List, [], ◌∷◌}
use Rattle.flat_grammar.specs.declared.flat.Occ.{Occ}
use Rattle.flat_grammar.specs.declared.flat.FlatExpr.{FlatExpr, Value, Terminal, Read, Coord, Apply', If', Order', Row_of-FlatExpr, end_of-FlatExpr, more_of-FlatExpr}

-- what it reads without its arguments
abbrev pub own_reads : FlatExpr → List Occ
own_reads (Read o) = o ∷ []
own_reads _ = []

-- how many expressions it is made of, itself counted
abbrev mutual
  pub weight : FlatExpr → ℕ
  weight (Value v) = 1
  weight (Terminal k) = 1
  weight (Read o) = 1
  weight (Coord part) = 1
  weight (Apply' comp op shape args) = suc (weight_of_all args)
  weight (If' shape args) = suc (weight_of_all args)
  weight (Order' shape args) = suc (weight_of_all args)

  pub weight_of_all : {m : _} → Row_of-FlatExpr m → ℕ
  weight_of_all end_of-FlatExpr = 0
  weight_of_all (more_of-FlatExpr e es) = weight e + weight_of_all es
