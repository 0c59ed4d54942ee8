use Rattle.std.proofs.Common.{◌∙◌, ap, sym, subst}
use Rattle.tree_store.specs.Growth.{IsOpen}
use Rattle.trials_of_jobs.proofs.OpenNodes.{more, number, open-written}
use Rattle.trials_of_jobs.proofs.two_trees.written.Goals as goal

pub add-requires-2-clause-open : goal.add-requires-2-clause-open
add-requires-2-clause-open c = let e = c.in_ok-add_number.ensures ∙ ap (number 1 5) (c.in_ok-add.ensures ∙ ap (more 1 0) c.in_ok-tree.ensures) in
    subst (λ t. IsOpen t 0) (sym e) open-written
