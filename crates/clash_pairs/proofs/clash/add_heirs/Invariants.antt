use Rattle.std.specs.Prelude.{IsTrue}
use Rattle.std.proofs.Common.{◌≡◌}
use Rattle.kind_clashes.specs.Names.{HasMore}
use Rattle.kind_clashes.proofs.LeastLemmas.{AmongFirst}
use Rattle.symbol_attributes.specs.Inheritance.{number}
use Rattle.clash_pairs.specs.Bearers.{has_owning_class}
use Rattle.clash_pairs.proofs.clash.add_heirs.Given as goal

-- those so far were added
abbrev pub invariant-loop-symbol : goal.invariant-loop-symbol
invariant-loop-symbol l = HasMore (AmongFirst (λ x s. IsTrue (has_owning_class l.owners l.numbers l.inheritance (number l.numbers x)) × (x ≡ s)) l.symbol-items l.symbol-index) l.initial.set l.set
