use Rattle.std.proofs.Common.{List, subst}
use Rattle.sum_trees.specs.declared.form.TreeNode.{TreeNode}
use Rattle.sum_trees.specs.Steps.{LeadsNowhere}
use Rattle.sum_trees.proofs.tree.step.Goals as goal

pub returns-in-Err-step_end-clause-outside : goal.returns-in-Err-step_end-clause-outside
returns-in-Err-step_end-clause-outside c = λ e.
    subst (λ (l : List TreeNode). LeadsNowhere c.args.rules.now l c.args.at c.args.rest.now) c.as_slice-in-None-2.ensures (c.in-Err-step_end.ensures.outside e)
