use Rattle.kind_clashes.proofs.LeastLemmas.{first-at}
use Rattle.table_faults.proofs.outputs.out_in_item.Goals as goal

pub returns : goal.returns
returns c = first-at c.as_slice.ensures c.least_out.ensures
