use Rattle.std.proofs.Common.{◌≡◌, ℕ, take}
use Rattle.numbered_computations.specs.Held.{held_at, held_by, last_of}
use Rattle.numbered_computations.proofs.table.Computations.note_body.Given as goal

-- the computations so far
abbrev pub invariant-loop-comp : goal.invariant-loop-comp
invariant-loop-comp l = (n : ℕ) → held_at l.self n ≡ last_of n (held_at l.initial.self n) (held_by l.holder (take l.comp-index l.body))
