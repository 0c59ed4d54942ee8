use Rattle.symbol_attributes.proofs.LawLemmas.{are-numbered-in}
use Rattle.symbol_attributes.proofs.laws.symbols_of_items_are_numbered.Goals as goal

pub returns : goal.returns
returns c = λ spec env names numbered. are-numbered-in spec env names numbered
