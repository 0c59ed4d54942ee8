use Rattle.std.proofs.Common.{◌≡◌, ◌∷◌, take}
use Rattle.least_paths.proofs.cycle.begun_at.Given as goal

-- the vertices so far
abbrev pub invariant-loop-v : goal.invariant-loop-v
invariant-loop-v l = l.longer.items ≡ l.s ∷ take l.v-index l.path
