-- A copy of a written expression whose leaves are given.
use Rattle.std.specs.Prelude.{◌≡◌, ℕ, ℤ, List, Option, Contains}
use Rattle.lido_base.specs.Environment.{Environment}
use Rattle.lido_syntax.specs.declared.spec.Name.{Name}
use Rattle.lido_syntax.specs.declared.spec.Pair.{Pair}
use Rattle.lido_syntax.specs.declared.spec.Cons.{Cons}
use Rattle.lido_syntax.specs.declared.spec.Place.{Place}
use Rattle.lido_syntax.specs.declared.spec.Expr.{Expr}
use Rattle.lido_syntax.specs.declared.spec.Expr.TheVariants as expr
use Rattle.lido_syntax.specs.Production.{name_of}
use Rattle.lido_syntax.specs.Parts.{parts, leaves}
use Rattle.flat_grammar.specs.declared.flat.FlatExpr.{FlatExpr}
use Rattle.rule_tables.specs.Copies.{copy}
use Rattle.flat_copies.specs.declared.ops.Ops.{Ops}
use Rattle.flat_copies.specs.Ops.{IsKnown}

-- all functions that the expression calls have their operations
abbrev pub AreKnown : Environment → Ops → Expr → Type 0
AreKnown env ops e = (f : Name) (args : List Expr) → Contains (parts e) (expr.Call f args) → IsKnown env ops (name_of f)

-- Where what is given for each leaf is the definition's, the copy is the definition's.
abbrev pub IsCopied : List (List ℕ) → Ops → (Expr → FlatExpr → Type 0) → ℕ → Expr → FlatExpr → Type 0
IsCopied texts ops Gives comp e made = (env : Environment) (terminal : Name → Option ℤ → FlatExpr) (read : Place → ℕ → FlatExpr) (including : List Pair → FlatExpr) (constituents : Cons → FlatExpr)
    → env.texts ≡ texts → AreKnown env ops e → ((leaf : Expr) (x : FlatExpr) → Contains (leaves e) leaf → Gives leaf x → x ≡ copy env comp terminal read including constituents leaf)
    → made ≡ copy env comp terminal read including constituents e
