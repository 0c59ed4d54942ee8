use Rattle.clash_pairs.proofs.KindsLemmas.{second-of}
use Rattle.clash_pairs.proofs.kinds.second_of_kind.Goals as goal

pub returns : goal.returns
returns c = second-of c.in_ok-firsts.ensures c.least_kind_reached.ensures
