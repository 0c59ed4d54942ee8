-- A copy of a call is the call of the copies of its arguments.
use Rattle.std.specs.Prelude.{ℤ, map, flat_map, Contains}
use Rattle.std.proofs.Common.{◌≡◌, ◌∙◌, ℕ, ◌+◌, ◌<◌, List, [], ◌∷◌, ◌++◌, length, take, get_or, Option, refl, sym, ap, subst}
use Rattle.std.proofs.lemmas.List.{take_more, map-append}
use mathlib.Core.Former.{Count}
use Rattle.lido_base.specs.Environment.{Environment}
use Rattle.lido_base.proofs.Lists.{contains-here, contains-later, flat-contains}
use Rattle.lido_syntax.specs.declared.spec.Name.{Name}
use Rattle.lido_syntax.specs.declared.spec.Pair.{Pair}
use Rattle.lido_syntax.specs.declared.spec.Cons.{Cons}
use Rattle.lido_syntax.specs.declared.spec.Place.{Place}
use Rattle.lido_syntax.specs.declared.spec.Expr.{Expr}
use Rattle.lido_syntax.specs.declared.spec.Expr as whole
use Rattle.lido_syntax.specs.declared.spec.Expr.TheVariants as expr
use Rattle.lido_syntax.specs.declared.spec.Expr.TheBlock.{hidden-the_row-Expr-0}
use Rattle.lido_syntax.specs.Production.{name_of}
use Rattle.lido_syntax.specs.Parts.{parts, leaves}
use Rattle.lido_syntax.proofs.ExpressionLemmas.{parts-Call, leaves-Call}
use Rattle.flat_grammar.specs.declared.flat.FlatExpr.{FlatExpr}
use Rattle.rule_tables.specs.Copies.{call, copy, copies}
use Rattle.flat_copies.specs.declared.ops.Ops.{Ops}
use Rattle.flat_copies.specs.Copied.{AreKnown}

module _ (env : Environment) (comp : ℕ) (terminal : Name → Option ℤ → FlatExpr) (read : Place → ℕ → FlatExpr) (including : List Pair → FlatExpr) (constituents : Cons → FlatExpr) where
  abbrev of : Expr → FlatExpr
  of e = copy env comp terminal read including constituents e

  copies-row : (m : Count) (k : whole.Row_of-Expr m) → copies env comp terminal read including constituents k ≡ map of (whole.items-the_row-Expr m k)
  copies-row m whole.end_of-Expr = refl
  copies-row m (whole.more_of-Expr e es) = ap (λ made. of e ∷ made) (copies-row _ es)

  pub copy-Call : (f : Name) (args : List Expr) → of (expr.Call f args) ≡ call env comp (name_of f) (map of args)
  copy-Call f args = ap (call env comp (name_of f)) (copies-row _ (hidden-the_row-Expr-0 args) ∙ ap (map of) (whole.items_hidden-the_row-Expr-0 args))

-- what is known of a call is known of its arguments
pub args-known : (env : Environment) (ops : Ops) (f : Name) (args : List Expr) → AreKnown env ops (expr.Call f args) → (arg : Expr) → Contains args arg → AreKnown env ops arg
args-known env ops f args known arg m g more k = known g more (subst (λ l. Contains l (expr.Call g more)) (sym (parts-Call f args))
    (contains-later (expr.Call f args) (expr.Call g more) (flat_map parts args) (flat-contains parts args arg (expr.Call g more) m k)))

pub arg-leaf : (f : Name) (args : List Expr) (arg leaf : Expr) → Contains args arg → Contains (leaves arg) leaf → Contains (leaves (expr.Call f args)) leaf
arg-leaf f args arg leaf m k = subst (λ l. Contains l leaf) (sym (leaves-Call f args)) (flat-contains leaves args arg leaf m k)

-- one copy more
pub copies-more : (f : Expr → FlatExpr) (args : List Expr) (i : ℕ) (x : Expr) (old new : List FlatExpr) (made : FlatExpr) → i < length args → x ≡ get_or args i x → old ≡ map f (take i args)
    → new ≡ old ++ made ∷ [] → made ≡ f x → new ≡ map f (take (i + 1) args)
copies-more f args i x old new made below is before after same =
    after ∙ ap (λ (l : List FlatExpr). l ++ made ∷ []) before ∙ ap (λ (y : FlatExpr). map f (take i args) ++ y ∷ []) same
    ∙ sym (ap (map f) (take_more args i x below ∙ ap (λ (z : Expr). take i args ++ z ∷ []) (sym is)) ∙ map-append f (take i args) (x ∷ []))

pub itself-in : (f : Name) (args : List Expr) → Contains (parts (expr.Call f args)) (expr.Call f args)
itself-in f args = subst (λ l. Contains l (expr.Call f args)) (sym (parts-Call f args)) (contains-here (expr.Call f args) (flat_map parts args))
