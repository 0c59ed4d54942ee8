use Rattle.std.proofs.Common.{drop}
use Rattle.expr_types.specs.Faults.{Begins}
use Rattle.expr_types.specs.Rows.{signatures_of}
use Rattle.expr_types.proofs.rows.any_begins.Given as goal

abbrev pub invariant-loop-row : goal.invariant-loop-row
invariant-loop-row l = Begins (signatures_of l.rows) l.front → Begins (signatures_of (drop l.row-index l.rows)) l.front
