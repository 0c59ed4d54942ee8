use Rattle.trials_of_tables.proofs.ItemsLemmas.{item_needs, cell_needs, item_wanted, item_reaches, cell_reaches, item_chain, cell_chain}
use Rattle.trials_of_tables.proofs.counted_items.needs_of_items.Goals as goal

pub returns-clause-item : goal.returns-clause-item
returns-clause-item c = item_needs

pub returns-clause-list_cell : goal.returns-clause-list_cell
returns-clause-list_cell c = cell_needs

pub returns-clause-wanted : goal.returns-clause-wanted
returns-clause-wanted c = item_wanted

pub returns-clause-source : goal.returns-clause-source
returns-clause-source c = item_reaches

pub returns-clause-above_source : goal.returns-clause-above_source
returns-clause-above_source c = cell_reaches

pub returns-clause-chain : goal.returns-clause-chain
returns-clause-chain c = item_chain

pub returns-clause-chain_of_cell : goal.returns-clause-chain_of_cell
returns-clause-chain_of_cell c = cell_chain
