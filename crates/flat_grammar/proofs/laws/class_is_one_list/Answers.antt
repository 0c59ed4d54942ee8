use Rattle.flat_grammar.proofs.PartitionLemmas.{IsClass-only}
use Rattle.flat_grammar.proofs.laws.class_is_one_list.Goals as goal

pub returns : goal.returns
returns c = λ symbols rules x k xs ys p q. IsClass-only symbols rules x k xs ys p q
