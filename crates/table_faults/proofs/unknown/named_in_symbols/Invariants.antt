use Rattle.lido_syntax.specs.declared.spec.SymbolItem.{SymbolItem}
use Rattle.kind_clashes.specs.Least.{IsFirst, Among}
use Rattle.kind_clashes.proofs.LeastLemmas.{AmongFirst}
use Rattle.table_faults.specs.Unknown.{IsNamedComp}
use Rattle.table_faults.proofs.unknown.named_in_symbols.Given as goal

-- the least place so far
abbrev pub invariant-loop-item : goal.invariant-loop-item
invariant-loop-item l = IsFirst (AmongFirst (λ (item : SymbolItem). Among (IsNamedComp l.strings) item.body) l.items l.item-index) l.least
