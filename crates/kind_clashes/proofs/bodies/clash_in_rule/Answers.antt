use Rattle.kind_clashes.proofs.LeastLemmas.{first-at}
use Rattle.kind_clashes.proofs.bodies.clash_in_rule.Goals as goal

pub returns : goal.returns
returns c = first-at c.as_slice.ensures c.in_ok-least.ensures
