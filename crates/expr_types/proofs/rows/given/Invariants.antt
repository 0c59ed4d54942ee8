use Rattle.std.proofs.Common.{drop, Contains}
use Rattle.lido_base.specs.declared.value.ValueType.{ValueType}
use Rattle.lido_base.specs.Types.{of_types}
use Rattle.expr_types.specs.Rows.{signatures_of}
use Rattle.expr_types.proofs.rows.given.Given as goal

abbrev pub invariant-loop-row : goal.invariant-loop-row
invariant-loop-row l = (ty : ValueType) → Contains (signatures_of l.rows) (of_types l.types ty) → Contains (signatures_of (drop l.row-index l.rows)) (of_types l.types ty)
