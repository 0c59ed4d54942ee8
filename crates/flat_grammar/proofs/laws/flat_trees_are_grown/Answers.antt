use Rattle.flat_grammar.proofs.GrownLemmas.{fitting-grown, stored-grown}
use Rattle.flat_grammar.proofs.laws.flat_trees_are_grown.Goals as goal

pub returns-clause-plain : goal.returns-clause-plain
returns-clause-plain c = fitting-grown

pub returns-clause-stored : goal.returns-clause-stored
returns-clause-stored c = λ symbols rules shapes root texts written flat node_of. stored-grown symbols rules texts written shapes root flat node_of
