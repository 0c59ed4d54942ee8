use Rattle.flat_grammar.proofs.PartitionLemmas.{IsInClass-kind}
use Rattle.flat_grammar.proofs.laws.classes_have_one_kind.Goals as goal

pub returns : goal.returns
returns c = λ symbols rules x k a p. IsInClass-kind symbols rules x k a p
