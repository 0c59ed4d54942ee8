use Rattle.std.specs.Prelude.{Contains}
use Rattle.std.proofs.Common.{ℕ, List, take}
use Rattle.symbol_attributes.specs.declared.facts.Said.{Said}
use Rattle.symbol_attributes.specs.Facts.{said, AreSums, IsTableOf}
use Rattle.symbol_attributes.proofs.written.facts_on.Given as goal

-- what is said on the symbols so far
abbrev pub invariant-loop-symbol : goal.invariant-loop-symbol
invariant-loop-symbol l = (list : List Said) → IsTableOf list l.table → AreSums (λ f. (s : ℕ) × Contains (take l.symbol-index l.symbols) s × Contains list (said s l.attribute f)) l.found
