use Rattle.table_faults.proofs.DoublesLemmas.{double-among}
use Rattle.table_faults.proofs.doubles.double_among.Goals as goal

pub returns : goal.returns
returns c = double-among c.args.all.now _ _ c.in_ok-firsts.ensures c.least_later.ensures
