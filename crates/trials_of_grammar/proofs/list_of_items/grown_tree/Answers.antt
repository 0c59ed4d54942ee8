use Rattle.trials_of_grammar.proofs.ItemTrees.{grown}
use Rattle.trials_of_grammar.proofs.list_of_items.grown_tree.Goals as goal

pub returns : goal.returns
returns c = grown
