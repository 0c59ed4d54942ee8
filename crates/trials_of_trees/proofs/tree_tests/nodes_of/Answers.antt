use Rattle.std.proofs.Common.{List, subst, sym}
use Rattle.tree_reader.specs.Language.{IsOneNode}
use Rattle.tree_reader.specs.Scanning.{Scanning}
use Rattle.tree_reader.specs.declared.part.Part.{Part}
use Rattle.trials_of_trees.proofs.tree_tests.nodes_of.Goals as goal

pub write_tree-requires-clause-one : goal.write_tree-requires-clause-one
unfolding Scanning
write_tree-requires-clause-one c = subst (λ (l : List Part). IsOneNode l) (sym c.as_slice.ensures.value) c.in-Ok.ensures.gives.is.0
