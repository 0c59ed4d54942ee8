use Rattle.std.proofs.Common.{[], ◌∷◌, codes, Some, refl, inl, Ok}
use Rattle.lido_base.specs.Inputs.{TakesAll}
use Rattle.lido_top.specs.Calls.{answers}
use Rattle.trials_of_answers.specs.Toy.{Run, Said, To, IsAlike, reads}
use Rattle.trials_of_answers.specs.Rows.{ToMore, refuses}
use Rattle.trials_of_answers.proofs.ToyLemmas.{says, takes_y}
use Rattle.trials_of_answers.proofs.RowsLemmas.{has_row, own_words, own, own_more, y_refused}
use Rattle.trials_of_answers.proofs.a_status_has_its_row.Goals as goal

pub returns-clause-row : goal.returns-clause-row
returns-clause-row c = has_row IsAlike Said reads To own_words own

pub returns-clause-one_more : goal.returns-clause-one_more
returns-clause-one_more c = has_row IsAlike Said reads ToMore own_words own_more

pub returns-clause-decided : goal.returns-clause-decided
returns-clause-decided c = answers Run (Some (codes "y")) (says (codes "run" ∷ []) (Ok Run) refl) takes_y (record { is = refuses; others = λ other given. inl (y_refused other given) })
