use Rattle.tree_store.specs.declared.trees.Trees.{Trees}
use Rattle.tree_reader.proofs.OneTable.{one_table_of}
use Rattle.tree_reader.proofs.laws.one_table.Goals as goal

pub returns : goal.returns
returns c = λ texts text answer told later other first second. one_table_of Trees texts text answer told later other first second
