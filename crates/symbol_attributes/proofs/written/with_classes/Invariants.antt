use Rattle.symbol_attributes.proofs.OwnersLemmas.{AreFirstOwners}
use Rattle.symbol_attributes.proofs.written.with_classes.Given as goal

-- the symbol and those classes so far that it inherits
abbrev pub invariant-loop-class : goal.invariant-loop-class
invariant-loop-class l = AreFirstOwners l.numbers l.inheritance l.symbol l.class-index l.list.items
