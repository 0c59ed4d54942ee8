use Rattle.std.specs.Prelude.{Contains}
use Rattle.std.proofs.Common.{◌≡◌, ◌++◌, ℕ, ◌≤◌, map, take}
use Rattle.rule_tables.specs.Slots.{Con}
use Rattle.flat_terms.specs.Scene.{Scene, occ}
use Rattle.flat_terms.specs.Sites.{IsSiteOf}
use Rattle.flat_terms.proofs.needs.push_cons.Given as goal

-- the children so far
abbrev pub invariant-loop-j : goal.invariant-loop-j
invariant-loop-j l = (scene : Scene) → IsSiteOf scene l.site → ((j : ℕ) → Contains l.places j → j ≤ 65535)
    → l.found.items ≡ l.initial.found.items ++ map (λ j. occ scene j (Con l.number)) (take l.j-index l.places)
