use Rattle.std.proofs.Common.{take, All}
use Rattle.lido_base.specs.declared.value.ValueType.{ValueType}
use Rattle.lido_syntax.specs.declared.spec.Expr.{Expr}
use Rattle.expr_types.specs.Scopes.{HasTypeIn}
use Rattle.expr_types.proofs.computations.check_after.Given as goal

abbrev pub invariant-loop-value : goal.invariant-loop-value
invariant-loop-value l = All (λ (e : Expr). (ty : ValueType) × HasTypeIn l.scope e ty) (take l.value-index l.after)
