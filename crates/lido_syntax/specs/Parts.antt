-- What expressions and computations are made of: the walk that all who name, number or type its parts go by.
use Rattle.std.specs.Prelude.{Bool, true, false, List, [], ◌∷◌, ◌++◌, flat_map, filter, Some}
use Rattle.lido_syntax.specs.declared.spec.Comp.{Comp}
use Rattle.lido_syntax.specs.declared.spec.Target.{Target}
use Rattle.lido_syntax.specs.declared.spec.Target.TheVariants as target
use Rattle.lido_syntax.specs.declared.spec.Expr.{Expr, Int, Str, Bool as Truth, Terminal, Read, Including, Constituents, Call', Row_of-Expr, end_of-Expr, more_of-Expr}

-- an expression and all within it, from the outside in and from the left, in both branches of an IF
abbrev mutual
  pub parts : Expr → List Expr
  parts (Int at z) = Int at z ∷ []
  parts (Str at s) = Str at s ∷ []
  parts (Truth at b) = Truth at b ∷ []
  parts (Terminal x i) = Terminal x i ∷ []
  parts (Read at p a) = Read at p a ∷ []
  parts (Including at pairs) = Including at pairs ∷ []
  parts (Constituents k) = Constituents k ∷ []
  parts (Call' f shape args) = Call' f shape args ∷ parts_of_all args

  pub parts_of_all : {m : _} → Row_of-Expr m → List Expr
  parts_of_all end_of-Expr = []
  parts_of_all (more_of-Expr e es) = parts e ++ parts_of_all es

-- the expression is no call
abbrev pub is_leaf : Expr → Bool
is_leaf (Call' f shape args) = false
is_leaf _ = true

-- what an expression is made of beneath its calls, from the left
abbrev pub leaves : Expr → List Expr
leaves e = filter is_leaf (parts e)

-- the condition of a message, if it has one
abbrev pub conditions : Target → List Expr
conditions (target.Message s (Some e)) = e ∷ []
conditions _ = []

-- the expressions of a computation, in the order of the text: a message's condition, the value, what stands behind `<-`
abbrev pub expressions_of : Comp → List Expr
expressions_of c = conditions c.target ++ c.value ∷ c.after

-- all parts of a computation, and those that are no calls
abbrev pub parts_of : Comp → List Expr
parts_of c = flat_map parts (expressions_of c)

abbrev pub leaves_of : Comp → List Expr
leaves_of c = flat_map leaves (expressions_of c)
