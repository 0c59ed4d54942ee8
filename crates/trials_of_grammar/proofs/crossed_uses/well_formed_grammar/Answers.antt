use Rattle.trials_of_grammar.proofs.PlainGrammars.{crossed-well-formed}
use Rattle.trials_of_grammar.proofs.crossed_uses.well_formed_grammar.Goals as goal

pub returns : goal.returns
returns c = crossed-well-formed
