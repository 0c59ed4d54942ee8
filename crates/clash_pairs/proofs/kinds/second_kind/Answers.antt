use Rattle.clash_pairs.proofs.KindsLemmas.{second-either}
use Rattle.clash_pairs.proofs.kinds.second_kind.Goals as goal

pub returns : goal.returns
returns c = second-either c.earlier.ensures c.in_ok-synthesized.ensures c.in_ok-second_of_kind.ensures
