use Rattle.std.proofs.Common.{◌≡◌, take}
use Rattle.symbol_inherit.specs.Classes.{graph_of}
use Rattle.symbol_inherit.proofs.classes.heirs_graph.Given as goal

abbrev pub invariant-loop-row : goal.invariant-loop-row
invariant-loop-row l = l.graph.items ≡ graph_of (take l.row-index l.rows)
