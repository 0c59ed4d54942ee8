use Rattle.std.proofs.Common.{nat_eq, map}
use Rattle.lido_symbols.specs.Numbers.{AreNumbered}
use Rattle.lido_symbols.specs.Uses.{with_place}
use Rattle.std.proofs.Common.{take}
use Rattle.lido_symbols.proofs.numbers.in_order.Given as goal

abbrev pub invariant-loop-name : goal.invariant-loop-name
invariant-loop-name l = AreNumbered nat_eq (map with_place (take l.name-index l.uses)) l.names
