use Rattle.symbol_attributes.specs.Inheritance.{AreRows}
use Rattle.symbol_attributes.proofs.inheritance.rows.Given as goal

abbrev pub invariant-loop-y : goal.invariant-loop-y
invariant-loop-y l = AreRows l.graph l.y l.rows.items
