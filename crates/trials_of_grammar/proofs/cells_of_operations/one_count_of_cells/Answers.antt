use Rattle.std.proofs.Common.{◌≡◌, List, length, refl, arith}
use Rattle.lido_base.specs.declared.operation.Op.{Op}
use Rattle.lido_base.specs.declared.operation.Op.TheVariants as op
use Rattle.lido_base.specs.declared.value.Value.{Value}
use Rattle.flat_grammar.specs.Fitting.{own_cells}
use Rattle.value_ops.specs.Outcome.{cells_wanted}
use Rattle.trials_of_grammar.proofs.cells_of_operations.one_count_of_cells.Goals as goal

same : (o : Op) (args : List Value) → cells_wanted o args ≡ own_cells o (length args)
same op.Numb args = omega arith
same op.AsIs args = omega arith
same op.Seq args = omega arith
same (op.Pattern k) args = omega arith
same _ args = refl

pub returns : goal.returns
returns c = same
