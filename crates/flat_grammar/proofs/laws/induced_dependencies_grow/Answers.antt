use Rattle.flat_grammar.proofs.DependenciesLemmas.{IDS-grows}
use Rattle.flat_grammar.proofs.laws.induced_dependencies_grow.Goals as goal

pub returns : goal.returns
returns c = λ rules more kept x a b e. IDS-grows rules more kept e
