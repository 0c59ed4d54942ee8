use Rattle.std.proofs.Common.{◌≡◌, map, take}
use Rattle.remote_lists.specs.Listings.{is_listed_by}
use Rattle.remote_lists.proofs.listings.listed_rows.Given as goal

-- the rows so far
abbrev pub invariant-loop-row : goal.invariant-loop-row
invariant-loop-row l = l.set.items ≡ map (is_listed_by l.symbols l.pairs) (take l.row-index l.rows)
