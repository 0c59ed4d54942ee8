use Rattle.lido_syntax.proofs.ConstituentsLemmas.{weight_of-step}
use Rattle.lido_syntax.proofs.laws.weights_come_from_children.Goals as goal

pub returns : goal.returns
returns c = weight_of-step
