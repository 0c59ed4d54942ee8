use Rattle.symbol_inherit.specs.Classes.{IsBest}
use Rattle.symbol_inherit.proofs.left.first_left.Given as goal

abbrev pub invariant-loop-y : goal.invariant-loop-y
invariant-loop-y l = IsBest l.classes l.index l.x l.aim l.count l.y l.except l.best
