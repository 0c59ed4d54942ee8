use Rattle.std.proofs.Common.{◌≡◌, map, take}
use Rattle.lido_base.specs.declared.ids.SymId.{SymId}
use Rattle.symbol_inherit.proofs.classes.edges.Given as goal

abbrev pub invariant-loop-class : goal.invariant-loop-class
invariant-loop-class l = l.next.items ≡ map (λ (class : SymId). class.0) (take l.class-index l.row.classes)
