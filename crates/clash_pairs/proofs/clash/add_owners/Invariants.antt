use Rattle.std.proofs.Common.{◌≡◌}
use Rattle.kind_clashes.specs.Names.{HasMore}
use Rattle.kind_clashes.proofs.LeastLemmas.{AmongFirst}
use Rattle.symbol_attributes.specs.declared.named.SymbolAttribute.{SymbolAttribute}
use Rattle.clash_pairs.proofs.clash.add_owners.Given as goal

-- the symbols so far were added
abbrev pub invariant-loop-one : goal.invariant-loop-one
invariant-loop-one l = HasMore (AmongFirst (λ (one : SymbolAttribute) s. one.symbol.0 ≡ s) l.named l.one-index) l.initial.owners l.owners
