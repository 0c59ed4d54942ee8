-- Which rules are still to be visited.
use Rattle.std.specs.Prelude.{◌≡◌, ◌-◌, ℕ, Bool, true, false, List, [], slice_index_or, Contains}

-- the rule is to be visited
abbrev pub IsDue : List Bool → ℕ → Type 0
IsDue flags k = slice_index_or flags k false ≡ true

-- the rule isn't to be visited
abbrev pub IsDone : List Bool → ℕ → Type 0
IsDone flags k = slice_index_or flags k false ≡ false

-- the rule has the symbol, by this table
abbrev pub IsUser : List (List ℕ) → ℕ → ℕ → Type 0
IsUser users x k = Contains (slice_index_or users x []) k

-- the rule that comes in turn, with the last one first where it goes back
abbrev pub in_turn : Bool → ℕ → ℕ → ℕ
in_turn true count i = count - 1 - i
in_turn false count i = i
