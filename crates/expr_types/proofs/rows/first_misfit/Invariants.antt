use Rattle.std.proofs.Common.{take}
use Rattle.expr_types.specs.Faults.{Begins}
use Rattle.expr_types.specs.Rows.{signatures_of}
use Rattle.expr_types.proofs.rows.first_misfit.Given as goal

abbrev pub invariant-loop-index : goal.invariant-loop-index
invariant-loop-index l = Begins (signatures_of l.rows) (take l.index l.types)
