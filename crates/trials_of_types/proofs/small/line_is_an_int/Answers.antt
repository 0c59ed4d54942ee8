use Rattle.std.specs.Prelude.{refl}
use Rattle.trials_of_types.proofs.small.line_is_an_int.Goals as goal

pub returns : goal.returns
returns c = λ spec sets r own at. refl
