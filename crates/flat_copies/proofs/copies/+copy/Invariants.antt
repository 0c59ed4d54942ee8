use Rattle.std.specs.Prelude.{ℤ, Option, Contains}
use Rattle.std.proofs.Common.{◌≡◌, ℕ, List, map, take}
use Rattle.lido_base.specs.Environment.{Environment}
use Rattle.lido_syntax.specs.declared.spec.Name.{Name}
use Rattle.lido_syntax.specs.declared.spec.Pair.{Pair}
use Rattle.lido_syntax.specs.declared.spec.Cons.{Cons}
use Rattle.lido_syntax.specs.declared.spec.Place.{Place}
use Rattle.lido_syntax.specs.declared.spec.Expr.{Expr}
use Rattle.lido_syntax.specs.Parts.{leaves}
use Rattle.flat_grammar.specs.declared.flat.FlatExpr.{FlatExpr}
use Rattle.rule_tables.specs.Copies.{copy}
use Rattle.flat_copies.specs.Copied.{AreKnown}
use Rattle.flat_copies.proofs.copies.+copy.Given as goal

-- the copies of the arguments so far
abbrev pub invariant-loop-arg : goal.invariant-loop-arg
invariant-loop-arg g l = (env : Environment) (terminal : Name → Option ℤ → FlatExpr) (read : Place → ℕ → FlatExpr) (including : List Pair → FlatExpr) (constituents : Cons → FlatExpr)
    → env.texts ≡ l.strings → ((arg : Expr) → Contains l.arg-items arg → AreKnown env l.ops arg)
    → ((arg leaf : Expr) (x : FlatExpr) → Contains l.arg-items arg → Contains (leaves arg) leaf → g.L.Leaves.Gives l.leaves leaf x → x ≡ copy env l.comp terminal read including constituents leaf)
    → l.copies.items ≡ map (copy env l.comp terminal read including constituents) (take l.arg-index l.arg-items)
