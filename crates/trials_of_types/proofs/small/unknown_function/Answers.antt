use Rattle.std.proofs.lemmas.Option.{none-some}
use Rattle.trials_of_types.proofs.small.unknown_function.Goals as goal

pub returns : goal.returns
returns c = λ spec sets holder r own at args ty h. none-some _ h.2.1
