use Rattle.trials_of_syntax.proofs.HandedDownLemmas.{kind_left, kind_right}
use Rattle.trials_of_syntax.proofs.inherited.inherited_kinds.Goals as goal

pub returns : goal.returns
returns c = record { side = kind_left; class = kind_right }
