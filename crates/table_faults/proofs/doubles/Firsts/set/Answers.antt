use Rattle.computation_aims.specs.Keys.{key}
use Rattle.table_faults.specs.Doubles.{first_at}
use Rattle.table_faults.proofs.doubles.Firsts.set.Goals as goal

pub returns : goal.returns
unfolding first_at
returns c = λ p a. let e = c.in_ok-insert.ensures.updates.0 (key p a) in rw c.number.ensures at e
