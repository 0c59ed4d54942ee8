use Rattle.std.proofs.Common.{◌≡◌, map, take}
use Rattle.constituents_expand.specs.Gatherings.{source_by}
use Rattle.constituents_expand.proofs.gatherings.sources.Given as goal

-- the rows so far
abbrev pub invariant-loop-row : goal.invariant-loop-row
invariant-loop-row l = l.sources.items ≡ map (source_by l.symbols l.pairs) (take l.row-index l.rows)
