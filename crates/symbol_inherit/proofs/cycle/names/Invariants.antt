use Rattle.std.proofs.Common.{◌≡◌, map, take}
use Rattle.symbol_inherit.specs.Rows.{name_in}
use Rattle.symbol_inherit.proofs.cycle.names.Given as goal

abbrev pub invariant-loop-number : goal.invariant-loop-number
invariant-loop-number l = l.path.items ≡ map (name_in l.rows) (take l.number-index l.numbers)
