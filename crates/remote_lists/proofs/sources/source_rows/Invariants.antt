use Rattle.std.proofs.Common.{◌≡◌, map, take}
use Rattle.remote_lists.specs.Sources.{source_by}
use Rattle.remote_lists.proofs.sources.source_rows.Given as goal

-- the rows so far
abbrev pub invariant-loop-row : goal.invariant-loop-row
invariant-loop-row l = l.sources.items ≡ map (source_by l.symbols l.pairs) (take l.row-index l.rows)
