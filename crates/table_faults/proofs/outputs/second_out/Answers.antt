use Rattle.table_faults.proofs.OutputsLemmas.{second-some, second-none}
use Rattle.table_faults.proofs.outputs.second_out.Goals as goal

pub returns-in-Some : goal.returns-in-Some
returns-in-Some c = second-some c.args.body.now c.in-Some.first c.least_out_behind.result c.in-Some.ensures c.least_out_behind.ensures

pub returns-in-None : goal.returns-in-None
returns-in-None c = second-none c.args.body.now c.in-None.ensures
