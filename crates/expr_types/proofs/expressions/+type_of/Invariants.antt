use Rattle.std.proofs.Common.{take, length}
use Rattle.lido_syntax.specs.Parts.{parts}
use Rattle.expr_types.specs.Calls.{HaveEach}
use Rattle.expr_types.specs.Scopes.{HasTypeIn}
use Rattle.expr_types.proofs.expressions.+type_of.Given as goal

abbrev pub invariant-loop-arg : goal.invariant-loop-arg
invariant-loop-arg l = HaveEach (HasTypeIn l.scope) (take l.arg-index l.args) l.types.items

abbrev pub decreases-type_of : goal.decreases-type_of
decreases-type_of l = length (parts l.value.now)
