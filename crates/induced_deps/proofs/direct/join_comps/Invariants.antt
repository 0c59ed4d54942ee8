use Rattle.std.proofs.Common.{◌≡◌, length, take}
use Rattle.induced_deps.specs.Rows.{Gains}
use Rattle.induced_deps.specs.Vertices.{OfComps}
use Rattle.induced_deps.proofs.direct.join_comps.Given as goal

abbrev pub invariant-loop-comp : goal.invariant-loop-comp
invariant-loop-comp l = record {
  size : length l.closure.rows.items ≡ length l.initial.closure.rows.items;
  edges : Gains l.initial.closure.rows.items l.closure.rows.items (OfComps l.places (take l.comp-index l.comps));
}
