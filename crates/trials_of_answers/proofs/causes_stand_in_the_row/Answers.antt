use Rattle.std.proofs.Common.{[], refl, arith, ◌∷◌, codes, Ok}
use Rattle.std.proofs.KnownBytes.{Appends-nil}
use Rattle.lido_base.specs.Inputs.{TakesAtMost}
use Rattle.lido_top.specs.Answers.{err_fails}
use Rattle.lido_top.specs.Calls.{source_fails}
use Rattle.trials_of_answers.specs.Toy.{Run}
use Rattle.trials_of_answers.proofs.ToyLemmas.{says}
use Rattle.trials_of_answers.proofs.causes_stand_in_the_row.Goals as goal

pub returns-clause-met : goal.returns-clause-met
returns-clause-met c = source_fails Run (says (codes "run" ∷ []) (Ok Run) refl) refl (record { bytes = []; taken = refl; count = omega arith }) (omega arith)

pub returns-clause-cut : goal.returns-clause-cut
returns-clause-cut c = λ out. err_fails (Appends-nil out.bytes) (record { taken = 4; short = omega arith; bytes = refl; counted = refl }, omega arith)
