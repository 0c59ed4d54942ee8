use Rattle.std.proofs.Common.{◌≡◌, map, take}
use Rattle.lido_base.specs.Tree.{contains}
use Rattle.symbol_attributes.proofs.inheritance.named_by.Given as goal

abbrev pub invariant-loop-next : goal.invariant-loop-next
invariant-loop-next l = l.set.items ≡ map (λ next. contains l.y next) (take l.next-index l.graph)
