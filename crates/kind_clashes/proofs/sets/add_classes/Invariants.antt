use Rattle.std.specs.Prelude.{Contains, IsTrue}
use Rattle.lido_syntax.specs.declared.spec.SymbolItem.{SymbolItem}
use Rattle.lido_syntax.specs.Sets.{names_of}
use Rattle.kind_clashes.specs.Names.{HasMore}
use Rattle.kind_clashes.proofs.LeastLemmas.{AmongFirst}
use Rattle.kind_clashes.proofs.sets.add_classes.Given as goal

-- the names so far were added
abbrev pub invariant-loop-item : goal.invariant-loop-item
invariant-loop-item l = HasMore (AmongFirst (λ (item : SymbolItem) s. IsTrue item.class × Contains (names_of item) s) l.items l.item-index) l.initial.names l.names
