use Rattle.lido_syntax.specs.declared.spec.SymbolItem.{SymbolItem}
use Rattle.kind_clashes.specs.Least.{IsFirst, Among}
use Rattle.kind_clashes.proofs.LeastLemmas.{AmongFirst}
use Rattle.kind_clashes.specs.Comps.{IsBodyClash}
use Rattle.kind_clashes.proofs.bodies.clash_in_symbols.Given as goal

-- the least place so far
abbrev pub invariant-loop-item : goal.invariant-loop-item
invariant-loop-item l = IsFirst (AmongFirst (λ (item : SymbolItem). Among (IsBodyClash l.sets) item.body) l.items l.item-index) l.least
