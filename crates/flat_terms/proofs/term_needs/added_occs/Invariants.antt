use Rattle.std.specs.List.{AllZip}
use Rattle.std.proofs.Common.{◌≡◌, ℕ, List, map, take}
use Rattle.rule_tables.specs.Slots.{Slot}
use Rattle.rule_tables.specs.ExtraOf.{IsSlotOf}
use Rattle.flat_terms.specs.Scene.{Scene, occ}
use Rattle.flat_terms.specs.Sites.{IsSiteOf}
use Rattle.flat_terms.proofs.term_needs.added_occs.Given as goal

-- the attributes so far
abbrev pub invariant-loop-at : goal.invariant-loop-at
invariant-loop-at l = (scene : Scene) → IsSiteOf scene l.site → (named : List (ℕ × Slot)) → AllZip (IsSlotOf l.tables scene.plain) l.slots named
    → l.found.items ≡ map (λ (o : ℕ × Slot). occ scene o.0 o.1) (take l.at-index named)
