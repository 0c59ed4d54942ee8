use Rattle.std.proofs.Common.{◌∙◌, ap}
use Rattle.std.proofs.Common.{length}
use Rattle.lido_base.specs.Tree.{Leaf}
use Rattle.tree_store.proofs.GrowthLemmas.{length-with_item}
use Rattle.tree_reader.proofs.writer.add_leaf.Goals as goal

pub returns-in-Ok-clause-count : goal.returns-in-Ok-clause-count
returns-in-Ok-clause-count c = ap length c.in-Ok.ensures.added ∙ length-with_item c.args.tree.now c.args.parent.node (Leaf c.args.value)
