use Rattle.std.proofs.Common.{◌≡◌, ◌-◌, drop}
use Rattle.flat_grammar.specs.WholeOrder.{segment}
use Rattle.core_machine.proofs.cursor.start_of.Given as goal

-- the visit begins behind so many more ends of visits
abbrev pub invariant-loop-place : goal.invariant-loop-place
invariant-loop-place l = segment l.ends (drop l.place l.items) ≡ segment (l.visit - 1) l.items
