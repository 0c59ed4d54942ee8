use Rattle.std.proofs.Common.{◌≡◌, ◌<◌, length, take}
use Rattle.induced_deps.specs.Rows.{Gains, IsTransitive}
use Rattle.induced_deps.specs.Rounds.{OfPlaces}
use Rattle.induced_deps.proofs.rounds.join_induced.Given as goal

abbrev pub invariant-loop-place : goal.invariant-loop-place
invariant-loop-place l = record {
  size : length l.closure.rows.items ≡ length l.initial.closure.rows.items;
  transitive : 0 < l.left → IsTransitive l.closure.rows.items;
  edges : Gains l.initial.closure.rows.items l.closure.rows.items (OfPlaces l.ids (take l.place-index l.places));
}
