use Rattle.lido_base.specs.Phases.{gives_one}
use Rattle.sum_trees.specs.declared.form.FormFault.TheVariants as fault
use Rattle.sum_trees.specs.Trees.{IsTree}
use Rattle.sum_trees.proofs.Faults.{fault_is}
use Rattle.sum_trees.proofs.tree.read_sum_tree.Goals as goal

pub returns-clause-gives : goal.returns-clause-gives
returns-clause-gives c =
    gives_one (λ nodes. nodes) (IsTree c.args.rules.now c.args.text.now) fault.Outside fault.Memory fault_is c.tree_of.result c.tree_of.ensures.tree c.tree_of.ensures.only c.tree_of.ensures.outside
