use Rattle.trials_of_tables.proofs.FromTextOfItems.{from_text}
use Rattle.trials_of_tables.proofs.counted_items.items_from_text.Goals as goal

pub returns : goal.returns
returns c = from_text
