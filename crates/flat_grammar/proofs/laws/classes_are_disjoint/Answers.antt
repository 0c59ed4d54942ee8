use Rattle.flat_grammar.proofs.PartitionLemmas.{IsInClass-once}
use Rattle.flat_grammar.proofs.laws.classes_are_disjoint.Goals as goal

pub returns : goal.returns
returns c = λ symbols rules x j k a p q. IsInClass-once symbols rules x j k a p q
