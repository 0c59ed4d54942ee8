use Rattle.kind_clashes.proofs.TypesLemmas.{second-of}
use Rattle.kind_clashes.proofs.types.second_of_type.Goals as goal

pub returns : goal.returns
returns c = second-of c.in_ok-firsts.ensures c.least_typed_behind.ensures
