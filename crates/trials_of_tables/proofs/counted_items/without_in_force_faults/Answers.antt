use Rattle.trials_of_tables.proofs.InForceLemmas.{without}
use Rattle.trials_of_tables.proofs.counted_items.without_in_force_faults.Goals as goal

pub returns : goal.returns
returns c = without
