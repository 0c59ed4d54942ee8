use Rattle.kind_clashes.proofs.LeastLemmas.{first-at}
use Rattle.kind_clashes.proofs.symbols.inherits_no_class_in.Goals as goal

pub returns : goal.returns
returns c = first-at c.as_slice.ensures c.least_not_in.ensures
