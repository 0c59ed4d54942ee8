use Rattle.std.proofs.Common.{◌≡◌, ◌<◌, length}
use Rattle.induced_deps.specs.Rows.{Gains, IsTransitive}
use Rattle.induced_deps.specs.Rounds.{OfRows}
use Rattle.induced_deps.proofs.rounds.join_rows.Given as goal

abbrev pub invariant-loop-a : goal.invariant-loop-a
invariant-loop-a l = record {
  size : length l.closure.rows.items ≡ length l.initial.closure.rows.items;
  transitive : 0 < l.left → IsTransitive l.closure.rows.items;
  edges : Gains l.initial.closure.rows.items l.closure.rows.items (OfRows l.place l.rows l.a);
}
