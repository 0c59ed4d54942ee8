use Rattle.std.proofs.Common.{arith}
use Rattle.kind_clashes.proofs.NamesLemmas.{more-end}
use Rattle.symbol_attributes.proofs.owned.add_passed.Goals as goal

pub returns : goal.returns
returns c = more-end (omega arith) c.loop-one.invariant
