use Rattle.core_machine.proofs.LimitLemmas.{values-range}
use Rattle.core_machine.proofs.laws.values_are_in_range.Goals as goal

pub returns : goal.returns
returns c = λ j task numbers i v e. values-range j task numbers i v e
