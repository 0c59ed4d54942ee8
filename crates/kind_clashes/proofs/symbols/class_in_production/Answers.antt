use Rattle.kind_clashes.proofs.LeastLemmas.{first-at, first-join}
use Rattle.kind_clashes.proofs.symbols.class_in_production.Goals as goal

pub returns : goal.returns
returns c = first-join c.earlier.ensures c.if_in.ensures (first-at c.as_slice.ensures c.least_element_in.ensures)
