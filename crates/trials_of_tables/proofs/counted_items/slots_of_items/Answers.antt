use Rattle.std.proofs.Common.{arith, inl}
use Rattle.trials_of_tables.proofs.SlotsOfItems.{are_slots}
use Rattle.trials_of_tables.proofs.counted_items.slots_of_items.Goals as goal

pub returns-clause-attributes : goal.returns-clause-attributes
returns-clause-attributes c = are_slots

pub returns-clause-message_first : goal.returns-clause-message_first
returns-clause-message_first c sets needs = inl (omega arith)
