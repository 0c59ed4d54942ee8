use Rattle.trials_of_grammar.proofs.PlainGrammars.{late-well-formed}
use Rattle.trials_of_grammar.proofs.late_inherited.well_formed_grammar.Goals as goal

pub returns : goal.returns
returns c = late-well-formed
