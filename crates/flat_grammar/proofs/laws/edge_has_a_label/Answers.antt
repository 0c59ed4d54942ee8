use Rattle.flat_grammar.proofs.CyclesLemmas.{extended-label}
use Rattle.flat_grammar.proofs.laws.edge_has_a_label.Goals as goal

pub returns : goal.returns
returns c = extended-label
