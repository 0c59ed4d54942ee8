-- The items of the split list and what they give, computed.
use Rattle.std.specs.Prelude.{◌≡◌, [], ◌∷◌, Some, refl}
use Rattle.lido_base.specs.Tree.{ancestors, from_children}
use Rattle.std.specs.Fmt.{digits}
use Rattle.lido_base.specs.Operations.{operate}
use Rattle.flat_grammar.specs.WholeOrder.{order}
use Rattle.core_machine.specs.Core.{items, machine}
use Rattle.core_machine.specs.Machine.{own, final}
use Rattle.core_machine.specs.Walks.{walk, own_order}
use Rattle.trials_of_jobs.specs.SplitList.{job, all_items, items_of_the_root, items_of_the_cell, the_output, the_deposit}

pub whole : items job ≡ all_items
unfolding order from_children
whole = refl

pub of-the-root : own (machine job) 0 (items job) ≡ items_of_the_root
unfolding order from_children ancestors
of-the-root = refl

pub of-the-cell : own (machine job) 1 (items job) ≡ items_of_the_cell
unfolding order from_children ancestors
of-the-cell = refl

pub walk-root : walk job 0 ≡ items_of_the_root
unfolding own_order from_children
walk-root = refl

pub walk-cell : walk job 1 ≡ items_of_the_cell
unfolding own_order from_children
walk-cell = refl

pub output : (final (machine job)).values (0, 0) ≡ Some the_output
unfolding order from_children ancestors operate digits
output = refl

pub deposit : (final (machine job)).rooms 0 ≡ the_deposit ∷ []
unfolding order from_children ancestors operate digits
deposit = refl

pub none : (final (machine job)).rooms 1 ≡ []
unfolding order from_children ancestors operate digits
none = refl
