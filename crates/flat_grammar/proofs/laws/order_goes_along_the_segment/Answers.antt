use Rattle.flat_grammar.proofs.WholeOrderLemmas.{order-step}
use Rattle.flat_grammar.proofs.laws.order_goes_along_the_segment.Goals as goal

pub returns : goal.returns
returns g c = λ t seqs w n v h. order-step t seqs w n v h
