use Rattle.std.proofs.Common.{◌≡◌, ℕ}
use Rattle.kind_clashes.specs.Least.{Among}
use Rattle.kind_clashes.specs.Names.{HasMore}
use Rattle.kind_clashes.proofs.LeastLemmas.{AmongFirst}
use Rattle.symbol_attributes.specs.Facts.{row_of}
use Rattle.symbol_attributes.proofs.rows.SaidTables.attributes_on.Given as goal

-- the rows so far were added
abbrev pub invariant-loop-symbol : goal.invariant-loop-symbol
invariant-loop-symbol l = HasMore (AmongFirst (λ (s : ℕ) a. Among (λ (b : ℕ) c. b ≡ c) (row_of l.self.rows s) a) l.symbols l.symbol-index) l.initial.set l.set
