use Rattle.trials_of_tables.proofs.TableLemmas.{are_tables}
use Rattle.trials_of_tables.proofs.counted_items.whole_tables_of_items.Goals as goal

pub returns : goal.returns
returns c = are_tables
