use Rattle.carried_trees.proofs.FittingLemmas.{fitting}
use Rattle.carried_trees.proofs.laws.fitting_trees_fit_the_flat_grammar.Goals as goal

pub returns : goal.returns
returns c = fitting
