use Rattle.std.proofs.Common.{◌≡◌, length, take}
use Rattle.induced_deps.specs.Rows.{Gains}
use Rattle.induced_deps.specs.Vertices.{ToGoal}
use Rattle.induced_deps.proofs.direct.add_edges.Given as goal

abbrev pub invariant-loop-u : goal.invariant-loop-u
invariant-loop-u l = record {
  size : length l.closure.rows.items ≡ length l.initial.closure.rows.items;
  edges : Gains l.initial.closure.rows.items l.closure.rows.items (ToGoal l.places (take l.u-index l.before) l.fn.goal);
}
