use Rattle.flat_grammar.proofs.CyclesLemmas.{EDP-label}
use Rattle.flat_grammar.proofs.laws.edge_has_one_label.Goals as goal

pub returns : goal.returns
returns c = λ symbols rules r u v l m d e. EDP-label symbols rules r u v l m d e
