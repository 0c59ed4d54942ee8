use Rattle.flat_grammar.proofs.DependenciesLemmas.{IDS-least}
use Rattle.flat_grammar.proofs.laws.induced_dependencies_are_least.Goals as goal

pub returns : goal.returns
returns c = λ rules p s closed x a b e. IDS-least rules _ _ closed e
