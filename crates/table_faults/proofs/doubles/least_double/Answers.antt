use Rattle.std.proofs.Common.{List, subst}
use Rattle.lido_syntax.specs.declared.spec.SymbolItem.{SymbolItem}
use Rattle.kind_clashes.specs.Least.{IsFirst}
use Rattle.kind_clashes.proofs.LeastLemmas.{first-at}
use Rattle.table_faults.specs.Doubles.{IsDoubleOfSymbol}
use Rattle.table_faults.proofs.DoubleTargets.{double-is}
use Rattle.table_faults.proofs.doubles.least_double.Goals as goal

pub returns : goal.returns
returns c = λ env. double-is c.args.spec.now env _ c.in_ok-chains.ensures _ _ _ c.earlier.ensures (first-at c.as_slice.ensures c.in_ok-in_rules.ensures)
    (subst (λ (items : List SymbolItem). IsFirst (IsDoubleOfSymbol items) c.in_ok-in_symbols.in_symbols) c.as_slice-2.ensures c.in_ok-in_symbols.ensures)
