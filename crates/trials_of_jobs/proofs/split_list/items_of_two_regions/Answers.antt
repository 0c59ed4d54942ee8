use Rattle.trials_of_jobs.proofs.SplitItems as computed
use Rattle.trials_of_jobs.proofs.split_list.items_of_two_regions.Goals as goal

pub returns-clause-whole : goal.returns-clause-whole
returns-clause-whole c = computed.whole

pub returns-clause-of_the_root : goal.returns-clause-of_the_root
returns-clause-of_the_root c = computed.of-the-root

pub returns-clause-of_the_cell : goal.returns-clause-of_the_cell
returns-clause-of_the_cell c = computed.of-the-cell

pub returns-clause-walk_of_the_root : goal.returns-clause-walk_of_the_root
returns-clause-walk_of_the_root c = computed.walk-root

pub returns-clause-walk_of_the_cell : goal.returns-clause-walk_of_the_cell
returns-clause-walk_of_the_cell c = computed.walk-cell

pub returns-clause-output : goal.returns-clause-output
returns-clause-output c = computed.output

pub returns-clause-deposit : goal.returns-clause-deposit
returns-clause-deposit c = computed.deposit

pub returns-clause-none : goal.returns-clause-none
returns-clause-none c = computed.none
