-- Counts that may be more than a number holds.
use Rattle.std.specs.Prelude.{◌≡◌, ℕ, ◌+◌, ◌≤◌, ◌⊎◌, List, [], ◌∷◌, length, filter_map}
use Rattle.lido_base.specs.Environment.{Environment}
use Rattle.lido_syntax.specs.declared.spec.Spec.{Spec}
use Rattle.lido_syntax.specs.declared.spec.Comp.{Comp}
use Rattle.lido_syntax.specs.declared.spec.Expr.{Expr}
use Rattle.lido_syntax.specs.declared.fault.SpecFault.{SpecFault}
use Rattle.lido_base.specs.declared.kinds.Many.TheVariants as many
use Rattle.lido_syntax.specs.Parts.{leaves_of}
use Rattle.lido_symbols.specs.Uses.{constituents_of}
use Rattle.table_faults.specs.Faults.{IsTooManyOf}

-- the count, or where it is more than a number of 64 bits a large one
abbrev pub Counts : ℕ → ℕ → Type 0
Counts n total = (total ≡ n) ⊎ ((1000000 ≤ total) × (total ≤ n))

-- a computation, with the CONSTITUENTS in it
abbrev pub constituents_in : List Expr → ℕ
constituents_in leaves = length (filter_map constituents_of leaves)

abbrev pub size_of : Comp → ℕ
size_of c = 1 + constituents_in (leaves_of c)

-- the limits of the tables, in order
abbrev pub limit_faults : Spec → Environment → List (SpecFault → Type 0)
limit_faults spec env = IsTooManyOf spec env many.Symbols ∷ IsTooManyOf spec env many.Rules ∷ IsTooManyOf spec env many.Elements ∷ IsTooManyOf spec env many.Computations ∷ []
