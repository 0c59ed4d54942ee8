use Rattle.flat_grammar.proofs.PartitionLemmas.{IsPeeled-grows}
use Rattle.flat_grammar.proofs.laws.peeling_grows.Goals as goal

pub returns : goal.returns
returns c = λ symbols rules x j k a h p. IsPeeled-grows symbols rules x k j a h p
