-- Graphs for the trials of reaching and of paths.
use Rattle.std.specs.Prelude.{ℕ, Bool, ◌&&◌, ◌||◌, nat_eq, List, [], ◌∷◌}
use Rattle.std.specs.List.{list_any}

-- An edge from s to c is in the list.
abbrev pub edge_in : List (ℕ × ℕ) → ℕ → ℕ → Bool
edge_in edges s c = list_any (λ (e : ℕ × ℕ). nat_eq e.0 s && nat_eq e.1 c) edges

-- 3 leads to 2, 2 to 1, and 4 to itself alone.
abbrev pub chain : ℕ → ℕ → Bool
chain = edge_in ((3, 2) ∷ (2, 1) ∷ (4, 4) ∷ [])

-- From 0 there are three ways to 3: over 1, over 2, and over 4 and 1.
abbrev pub ways : ℕ → ℕ → Bool
ways = edge_in ((0, 4) ∷ (0, 2) ∷ (0, 1) ∷ (4, 1) ∷ (2, 3) ∷ (1, 3) ∷ [])

-- A path may begin at 0 and at 2.
abbrev pub even_start : ℕ → Bool
even_start s = nat_eq s 0 || nat_eq s 2

-- 1 and 2 lead to each other, and 3 to itself.
abbrev pub rounds : ℕ → ℕ → Bool
rounds = edge_in ((1, 2) ∷ (2, 1) ∷ (3, 3) ∷ [])
