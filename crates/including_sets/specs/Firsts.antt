-- The first of each of those that are the same.
use Rattle.std.specs.Prelude.{Bool, if◌then◌else◌, List, [], ◌∷◌, ◌++◌}
use Rattle.std.specs.List.{list_any}

module _ {X : Type 0} (same : X → X → Bool) where
  -- of a list those that are the same as none in front of them, behind others
  abbrev pub firsts : List X → List X → List X
  firsts others [] = []
  firsts others (x ∷ xs) = if list_any (λ y. same y x) others then firsts others xs else x ∷ firsts (others ++ x ∷ []) xs
