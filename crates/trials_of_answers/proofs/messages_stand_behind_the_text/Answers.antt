use Rattle.std.proofs.Common.{codes, Some, refl, arith, inl, [], ◌∷◌, Ok}
use Rattle.lido_top.specs.Answers.{whole, err_fails}
use Rattle.lido_top.specs.Calls.{answers}
use Rattle.trials_of_answers.specs.Toy.{Run}
use Rattle.trials_of_answers.proofs.ToyLemmas.{says, takes_one}
use Rattle.trials_of_answers.proofs.messages_stand_behind_the_text.Goals as goal

pub returns-clause-decided : goal.returns-clause-decided
returns-clause-decided c = answers Run (Some (codes "x")) (says (codes "run" ∷ []) (Ok Run) refl) takes_one (record { is = refl; others = λ other given. inl given })

pub returns-clause-whole : goal.returns-clause-whole
returns-clause-whole c = whole refl refl refl

pub returns-clause-cut : goal.returns-clause-cut
returns-clause-cut c = err_fails refl (record { taken = 3; short = omega arith; bytes = refl; counted = refl }, omega arith)
