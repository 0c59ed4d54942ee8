use Rattle.symbol_inherit.specs.Classes.{graph_of, AreRows}
use Rattle.symbol_inherit.proofs.classes.Classes.of.Given as goal

abbrev pub invariant-loop-y : goal.invariant-loop-y
invariant-loop-y l = AreRows (graph_of l.rows) l.y l.heirs.items
