use Rattle.flat_grammar.proofs.PartitionLemmas.{AreVisits-only}
use Rattle.flat_grammar.proofs.laws.symbol_has_one_row_of_visits.Goals as goal

pub returns : goal.returns
returns c = λ symbols rules x row other p q. AreVisits-only symbols rules x row other p q
