-- A call is typed by the list of its arguments.
use Rattle.std.specs.Prelude.{◌≡◌, ℕ, List, [], ◌∷◌, Some, refl}
use Rattle.std.proofs.Common.{sym, subst, ◌∙◌}
use mathlib.Core.Former.{Count}
use Rattle.lido_base.specs.declared.value.ValueType.{ValueType}
use Rattle.lido_base.specs.Environment.{Environment}
use Rattle.lido_syntax.specs.declared.spec.Spec.{Spec}
use Rattle.lido_syntax.specs.declared.spec.Name.{Name}
use Rattle.lido_syntax.specs.declared.spec.RuleItem.{RuleItem}
use Rattle.lido_syntax.specs.declared.spec.Expr.{Expr}
use Rattle.lido_syntax.specs.declared.spec.Expr as whole
use Rattle.lido_syntax.specs.declared.spec.Expr.TheVariants as expr
use Rattle.lido_syntax.specs.declared.spec.Expr.TheBlock.{hidden-the_row-Expr-0}
use Rattle.lido_syntax.specs.Sets.{Sets}
use Rattle.lido_syntax.specs.Computation.{Holder}
use Rattle.expr_types.specs.Typing.{Function, Gives, function_of, IsCall, HasExprType, HaveTypes}
use Rattle.expr_types.specs.Calls.{HaveEach}
use Rattle.expr_types.proofs.TypingLemmas.{same-option}

-- a call of this function gives what the function gives
pub gives-of : (env : Environment) (f : Name) (function : Function) (types : List ValueType) (ty : ValueType)
    → function_of env f ≡ Some function → IsCall env f types ty → Gives function types ty
gives-of env f function types ty e call = subst (λ x. Gives x types ty) (same-option call.0 function (sym call.1 ∙ e)) call.2

-- each of these expressions has that type at most
abbrev pub HaveAtMost : (Expr → ValueType → Type 0) → List Expr → List ValueType → Type 0
HaveAtMost Has [] [] = Unit {0}
HaveAtMost Has (e ∷ es) (ty ∷ types) = ((other : ValueType) → Has e other → other ≡ ty) × HaveAtMost Has es types
HaveAtMost Has _ _ = ⊥

pub types-at-most : (Has : Expr → ValueType → Type 0) (es : List Expr) (types others : List ValueType) → HaveAtMost Has es types → HaveEach Has es others → others ≡ types
types-at-most Has [] [] [] most each = refl
types-at-most Has [] [] (u ∷ us) most each = absurd each
types-at-most Has [] (t ∷ ts) us most each = absurd most
types-at-most Has (e ∷ es) [] us most each = absurd most
types-at-most Has (e ∷ es) (t ∷ ts) [] most each = absurd each
types-at-most Has (e ∷ es) (t ∷ ts) (u ∷ us) most each =
    let first = most.0 u each.0 in
    let more = types-at-most Has es ts us most.1 each.1 in
    λ i. first i ∷ more i

module _ (spec : Spec) (sets : Sets spec) (env : Environment) (h : Holder) (r : RuleItem) (own : ℕ) where
  abbrev pub Has : Expr → ValueType → Type 0
  Has e ty = HasExprType spec sets env h r own e ty

  to-list : (m : Count) (k : whole.Row_of-Expr m) (types : List ValueType) → HaveTypes spec sets env h r own k types → HaveEach Has (whole.items-the_row-Expr m k) types
  to-list m whole.end_of-Expr [] each = tt
  to-list m whole.end_of-Expr (t ∷ ts) each = absurd each
  to-list m (whole.more_of-Expr e es) [] each = absurd each
  to-list m (whole.more_of-Expr e es) (t ∷ ts) each = (each.0, to-list _ es ts each.1)

  pub to-row : (m : Count) (k : whole.Row_of-Expr m) (types : List ValueType) → HaveEach Has (whole.items-the_row-Expr m k) types → HaveTypes spec sets env h r own k types
  to-row m whole.end_of-Expr [] each = tt
  to-row m whole.end_of-Expr (t ∷ ts) each = absurd each
  to-row m (whole.more_of-Expr e es) [] each = absurd each
  to-row m (whole.more_of-Expr e es) (t ∷ ts) each = (each.0, to-row _ es ts each.1)

  abbrev pub IsTypedByList : Name → List Expr → ValueType → Type 0
  IsTypedByList f args ty = (types : List ValueType) × HaveEach (HasExprType spec sets env h r own) args types × IsCall env f types ty

  pub types-Call : (f : Name) (args : List Expr) (ty : ValueType) → HasExprType spec sets env h r own (expr.Call f args) ty → IsTypedByList f args ty
  types-Call f args ty call = (call.0, subst (λ es. HaveEach Has es call.0) (whole.items_hidden-the_row-Expr-0 args) (to-list _ (hidden-the_row-Expr-0 args) call.0 call.1), call.2)

  pub Call-types : (f : Name) (args : List Expr) (ty : ValueType) → IsTypedByList f args ty → HasExprType spec sets env h r own (expr.Call f args) ty
  Call-types f args ty call = (call.0, to-row _ (hidden-the_row-Expr-0 args) call.0 (subst (λ es. HaveEach Has es call.0) (sym (whole.items_hidden-the_row-Expr-0 args)) call.1), call.2)

  -- a call has no type whose arguments have types that its function does not take
  pub no-call : (f : Name) (args : List Expr) (types : List ValueType) (function : Function) → HaveAtMost (HasExprType spec sets env h r own) args types
      → function_of env f ≡ Some function → (ty : ValueType) → (Gives function types ty → ⊥) → HasExprType spec sets env h r own (expr.Call f args) ty → ⊥
  no-call f args types function most e ty refused call =
      let list = types-Call f args ty call in
      let same = types-at-most Has args types list.0 most list.1 in
      refused (gives-of env f function types ty e (subst (λ ts. IsCall env f ts ty) same list.2))

  pub has-call : (f : Name) (args : List Expr) (types : List ValueType) (function : Function) → HaveEach (HasExprType spec sets env h r own) args types
      → function_of env f ≡ Some function → (ty : ValueType) → Gives function types ty → HasExprType spec sets env h r own (expr.Call f args) ty
  has-call f args types function each e ty gives = Call-types f args ty (types, each, (function, e, gives))
