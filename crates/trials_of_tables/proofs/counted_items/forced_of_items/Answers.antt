use Rattle.trials_of_tables.proofs.ForceLemmas.{are_forced}
use Rattle.trials_of_tables.proofs.counted_items.forced_of_items.Goals as goal

pub returns : goal.returns
returns c sets = are_forced
