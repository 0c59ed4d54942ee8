use Rattle.std.proofs.Common.{None, refl, inl, [], ◌∷◌, codes, Ok}
use Rattle.std.proofs.KnownBytes.{Keeps-refl}
use Rattle.lido_top.specs.Calls.{answers}
use Rattle.trials_of_answers.specs.Toy.{Big}
use Rattle.trials_of_answers.proofs.ToyLemmas.{says}
use Rattle.trials_of_answers.proofs.a_command_may_read_nothing.Goals as goal

pub returns-clause-decided : goal.returns-clause-decided
returns-clause-decided c = λ src. answers Big None (says (codes "big" ∷ []) (Ok Big) refl) (Keeps-refl src.bytes) (record { is = refl; others = λ other given. inl given })
