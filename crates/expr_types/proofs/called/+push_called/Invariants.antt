use Rattle.std.proofs.Common.{◌≡◌, ◌++◌, flat_map, take}
use Rattle.expr_types.specs.Called.{called_in}
use Rattle.expr_types.proofs.called.+push_called.Given as goal

abbrev pub invariant-loop-arg : goal.invariant-loop-arg
invariant-loop-arg l = l.names.items ≡ l.initial.names.items ++ flat_map called_in (take l.arg-index l.arg-items)
