-- How the specifications of the trials are written: names and computations, with their places.
use Rattle.std.specs.Prelude.{ℕ, []}
use Rattle.lido_syntax.specs.declared.spec.Name.{Name}
use Rattle.lido_syntax.specs.declared.spec.Comp.{Comp}
use Rattle.lido_syntax.specs.declared.spec.Target.{Target}
use Rattle.lido_syntax.specs.declared.spec.Expr.{Expr}

abbrev pub name : ℕ → ℕ → Name
name at id = record { at = at; id = record { 0 = id } }

-- a computation without dependencies
abbrev pub computation : ℕ → ℕ → Target → Expr → Comp
computation at number target value = record { at = at; number = number; target = target; value = value; after = [] }
