use Rattle.core_machine.proofs.RegionWalks.{region-walks}
use Rattle.core_machine.proofs.laws.region_walks.Goals as goal

pub returns : goal.returns
returns c = λ j task. region-walks j task
