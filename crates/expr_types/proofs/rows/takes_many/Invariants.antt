use Rattle.std.proofs.Common.{drop}
use Rattle.expr_types.specs.Faults.{TakesMany}
use Rattle.expr_types.specs.Typing.{WithRows}
use Rattle.expr_types.specs.Rows.{signatures_of}
use Rattle.expr_types.proofs.rows.takes_many.Given as goal

abbrev pub invariant-loop-row : goal.invariant-loop-row
invariant-loop-row l = TakesMany (WithRows (signatures_of l.rows)) l.count → TakesMany (WithRows (signatures_of (drop l.row-index l.rows))) l.count
