use Rattle.std.specs.Prelude.{Contains}
use Rattle.lido_syntax.specs.declared.spec.SymbolItem.{SymbolItem}
use Rattle.lido_syntax.specs.Sets.{names_of}
use Rattle.kind_clashes.specs.Names.{HasMore}
use Rattle.kind_clashes.proofs.LeastLemmas.{AmongFirst}
use Rattle.table_faults.proofs.DoublesLemmas.{IsSharedFirst}
use Rattle.table_faults.proofs.doubles.shared_names.Given as goal

-- the names of the items so far, and those of two of them
abbrev pub invariant-loop-item : goal.invariant-loop-item
invariant-loop-item l = record {
  seen : HasMore (AmongFirst (λ (item : SymbolItem) id. Contains (names_of item) id) l.items l.item-index) l.initial.seen l.seen;
  shared : HasMore (IsSharedFirst l.items l.item-index) l.initial.shared l.shared;
}
