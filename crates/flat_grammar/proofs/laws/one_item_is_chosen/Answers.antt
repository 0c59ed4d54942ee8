use Rattle.flat_grammar.proofs.ConstructionLemmas.{IsChosen-only}
use Rattle.flat_grammar.proofs.laws.one_item_is_chosen.Goals as goal

pub returns : goal.returns
returns c = λ symbols rules visits r before item other p q. IsChosen-only symbols rules visits r before item other p q
