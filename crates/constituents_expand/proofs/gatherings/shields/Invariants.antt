use Rattle.std.proofs.Common.{◌≡◌, map, take}
use Rattle.constituents_expand.specs.Listings.{shielded_by}
use Rattle.constituents_expand.proofs.gatherings.shields.Given as goal

-- the rows so far
abbrev pub invariant-loop-row : goal.invariant-loop-row
invariant-loop-row l = l.shields.items ≡ map (shielded_by l.symbols l.shield) (take l.row-index l.rows)
