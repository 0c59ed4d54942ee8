use Rattle.std.proofs.Common.{◌≡◌, ℕ}
use Rattle.kind_clashes.specs.Names.{HasMore}
use Rattle.kind_clashes.proofs.LeastLemmas.{AmongFirst}
use Rattle.symbol_attributes.proofs.rows.add_row.Given as goal

-- the attributes so far were added
abbrev pub invariant-loop-attribute : goal.invariant-loop-attribute
invariant-loop-attribute l = HasMore (AmongFirst (λ (a : ℕ) b. a ≡ b) l.row l.attribute-index) l.initial.set l.set
