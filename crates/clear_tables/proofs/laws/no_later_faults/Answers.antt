use Rattle.clear_tables.proofs.LaterFaults.{no-later-faults}
use Rattle.clear_tables.proofs.laws.no_later_faults.Goals as goal

pub returns : goal.returns
returns c = no-later-faults
