use Rattle.symbol_attributes.specs.Facts.{known}
use Rattle.symbol_attributes.proofs.facts.FactTable.note.Goals as goal

pub returns : goal.returns
unfolding known
returns c = λ s a. let e = c.in_ok-insert.ensures.updates.0 (s, a) in rw c.find.ensures at (rw c.add-facts.ensures at e)
