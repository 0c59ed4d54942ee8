-- What a computation counts: its operators, calls and opening parentheses, down from a budget; and the numbers of computations
-- and CONSTITUENTS.
use Rattle.std.specs.Prelude.{ℕ, zero, suc, ◌+◌, Option, Some, None}
use Rattle.lido_computations.specs.declared.counts.Counts.{Counts}

-- how many operators, calls and opening parentheses a computation may have
abbrev pub most_operators : ℕ
most_operators = 1000

-- one of them less, if there may be one
abbrev pub spent_of : ℕ → ℕ → Option Counts
spent_of zero number = None
spent_of (suc budget) number = Some (record { budget = budget; number = number })

abbrev pub spent : Counts → Option Counts
spent counts = spent_of counts.budget counts.number

-- a CONSTITUENTS takes a number
abbrev pub numbered : Counts → Counts
numbered counts = record { budget = counts.budget; number = counts.number + 1 }
