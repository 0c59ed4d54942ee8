-- The index of a rule's computations by their goals.
use Rattle.std.specs.Prelude.{◌≡◌, ℕ, Bool, ◌&&◌, nat_eq, List, Option, Some, None, Contains, map, slice_get}
use Rattle.std.specs.HashMap as table
use Rattle.flat_grammar.specs.declared.flat.Occ.{Occ}
use Rattle.flat_grammar.specs.declared.flat.FlatComp.{FlatComp}
use Rattle.sequence_checker.specs.declared.goals.Goals.{Goals}

-- the pairs are one
abbrev pub is_same_pair : ℕ × ℕ → ℕ × ℕ → Bool
is_same_pair p q = nat_eq p.0 q.0 && nat_eq p.1 q.1

-- the place that the index has for a goal
unfoldable pub goal_place : Goals → Occ → Option ℕ
goal_place g o = table.get is_same_pair g.places (o.occ, o.attr.0)

-- a computation of the goal stands at the place, or none has the goal
abbrev pub IsPlace : List FlatComp → Occ → Option ℕ → Type 0
IsPlace comps o None = ¬ Contains (map (λ (c : FlatComp). c.goal) comps) o
IsPlace comps o (Some k) = (c : FlatComp) × (slice_get comps k ≡ Some c) × (c.goal ≡ o)

-- the index has the place of each goal
abbrev pub IsIndexOf : List FlatComp → Goals → Type 0
IsIndexOf comps g = (o : Occ) → IsPlace comps o (goal_place g o)
