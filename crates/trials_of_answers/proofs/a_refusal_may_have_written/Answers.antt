use Rattle.std.proofs.Common.{codes, Some, refl, inl, [], ◌∷◌, Ok}
use Rattle.lido_top.specs.Answers.{whole}
use Rattle.lido_top.specs.Calls.{answers}
use Rattle.trials_of_answers.specs.Toy.{Edit}
use Rattle.trials_of_answers.proofs.ToyLemmas.{says, takes_one}
use Rattle.trials_of_answers.proofs.a_refusal_may_have_written.Goals as goal

pub returns-clause-decided : goal.returns-clause-decided
returns-clause-decided c = answers Edit (Some (codes "x")) (says (codes "edit" ∷ []) (Ok Edit) refl) takes_one (record { is = refl; others = λ other given. inl given })

pub returns-clause-whole : goal.returns-clause-whole
returns-clause-whole c = whole refl refl refl
