use Rattle.std.proofs.Common.{◌∙◌, ap, sym, subst}
use Rattle.tree_store.specs.Growth.{IsOpen}
use Rattle.trials_of_jobs.proofs.OpenNodes.{more, number, open-three, open-four, open-five}
use Rattle.trials_of_jobs.proofs.two_trees.flat.Goals as goal

pub add-requires-3-clause-open : goal.add-requires-3-clause-open
add-requires-3-clause-open c =
    let e = c.in_ok-add_number.ensures ∙ ap (number 2 5) (c.in_ok-add-2.ensures ∙ ap (more 1 1) (c.in_ok-add.ensures ∙ ap (more 2 0) c.in_ok-tree.ensures)) in
    subst (λ t. IsOpen t 1) (sym e) open-three

pub add-requires-4-clause-open : goal.add-requires-4-clause-open
add-requires-4-clause-open c =
    let e = c.in_ok-add_number.ensures ∙ ap (number 2 5) (c.in_ok-add-2.ensures ∙ ap (more 1 1) (c.in_ok-add.ensures ∙ ap (more 2 0) c.in_ok-tree.ensures)) in
    subst (λ t. IsOpen t 3) (sym (c.in_ok-add-3.ensures ∙ ap (more 2 1) e)) open-four

pub add-requires-5-clause-open : goal.add-requires-5-clause-open
add-requires-5-clause-open c =
    let e = c.in_ok-add_number.ensures ∙ ap (number 2 5) (c.in_ok-add-2.ensures ∙ ap (more 1 1) (c.in_ok-add.ensures ∙ ap (more 2 0) c.in_ok-tree.ensures)) in
    let f = c.in_ok-add-3.ensures ∙ ap (more 2 1) e in
    subst (λ t. IsOpen t 3) (sym (c.in_ok-add_number-2.ensures ∙ ap (number 4 6) (c.in_ok-add-4.ensures ∙ ap (more 1 3) f))) open-five
