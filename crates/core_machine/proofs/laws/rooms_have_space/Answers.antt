use Rattle.core_machine.proofs.LimitLemmas.{room-cells}
use Rattle.core_machine.proofs.laws.rooms_have_space.Goals as goal

pub returns : goal.returns
returns c = λ j task r. room-cells j task r
