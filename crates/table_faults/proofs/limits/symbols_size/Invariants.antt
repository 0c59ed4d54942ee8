use Rattle.std.specs.Prelude.{sum_by}
use Rattle.std.proofs.Common.{take}
use Rattle.lido_syntax.specs.declared.spec.SymbolItem.{SymbolItem}
use Rattle.table_faults.specs.Limits.{Counts, size_of}
use Rattle.table_faults.proofs.limits.symbols_size.Given as goal

abbrev pub invariant-loop-item : goal.invariant-loop-item
invariant-loop-item l = Counts (sum_by (λ (item : SymbolItem). sum_by size_of item.body) (take l.item-index l.items)) l.size
