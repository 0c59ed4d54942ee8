use Rattle.lido_base.proofs.TreeLemmas.{ancestors-root, ancestors-child}
use Rattle.lido_base.proofs.laws.ancestors_step_by_step.Goals as goal

pub returns-clause-root : goal.returns-clause-root
returns-clause-root g c = λ t n e. ancestors-root t n e

pub returns-clause-child : goal.returns-clause-child
returns-clause-child g c = λ t n p tree e. ancestors-child t tree n p e
