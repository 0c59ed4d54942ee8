use Rattle.lido_base.proofs.OriginsLemmas.{total, transitive, antisymmetric}
use Rattle.lido_base.proofs.laws.origins_are_in_order.Goals as goal

pub returns-clause-total : goal.returns-clause-total
returns-clause-total c = total

pub returns-clause-transitive : goal.returns-clause-transitive
returns-clause-transitive c = transitive

pub returns-clause-antisymmetric : goal.returns-clause-antisymmetric
returns-clause-antisymmetric c = antisymmetric
