use Rattle.std.proofs.Common.{◌≡◌, length, take}
use Rattle.std.specs.Prelude.{sum_by}
use Rattle.lido_base.specs.declared.ids.SymId.{SymId}
use Rattle.flat_grammar.specs.Rules.{symbols_of, attrs_of}
use Rattle.partitions.specs.RuleGraph.{AreVerticesBefore}
use Rattle.partitions.proofs.vertices.vertices_of.Given as goal

-- the vertices so far
abbrev pub invariant-loop-k : goal.invariant-loop-k
invariant-loop-k l = record {
  before : AreVerticesBefore l.flat.symbols l.rule l.k 0 l.occs.items l.starts.items;
  each : length l.starts.items ≡ l.k;
  count : length l.occs.items ≡ sum_by (λ (s : SymId). length (attrs_of l.flat.symbols s)) (take l.k (symbols_of l.rule));
}
