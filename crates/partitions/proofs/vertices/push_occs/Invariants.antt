use Rattle.std.proofs.Common.{◌≡◌, ◌+◌, length}
use Rattle.partitions.specs.RuleGraph.{AreVerticesBefore}
use Rattle.partitions.proofs.vertices.push_occs.Given as goal

-- the vertices so far
abbrev pub invariant-loop-a : goal.invariant-loop-a
invariant-loop-a l = record {
  before : AreVerticesBefore l.flat.symbols l.fn.rule l.k l.a l.occs.items l.starts;
  count : length l.occs.items ≡ length l.fn.occs.items + l.a;
}
