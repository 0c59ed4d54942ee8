use Rattle.std.proofs.Common.{◌≡◌, ◌++◌, flat_map, take}
use Rattle.expr_types.specs.Called.{called_in}
use Rattle.expr_types.proofs.called.functions_called.Given as goal

abbrev pub invariant-loop-value : goal.invariant-loop-value
invariant-loop-value l = l.names.items ≡ l.initial.names.items ++ flat_map called_in (take l.value-index l.value-items)
