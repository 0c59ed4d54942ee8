use Rattle.flat_grammar.proofs.ConstructionLemmas.{IsConstructed-only}
use Rattle.flat_grammar.proofs.laws.one_sequence_is_constructed.Goals as goal

pub returns : goal.returns
returns c = λ symbols rules visits r seq other p q. IsConstructed-only symbols rules visits r seq other p q
