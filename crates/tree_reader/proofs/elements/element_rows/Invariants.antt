use Rattle.std.proofs.Common.{◌≡◌, ◌<◌, ℕ, [], length}
use Rattle.std.specs.Prelude.{slice_index_or}
use Rattle.tree_reader.specs.Asking.{shape_at}
use Rattle.tree_reader.specs.Elements.{AreMarked}
use Rattle.tree_reader.proofs.elements.element_rows.Given as goal

-- the first shapes have their rows
abbrev pub invariant-loop-shape : goal.invariant-loop-shape
invariant-loop-shape l = record {
  count : length l.rows.items ≡ l.shape-index;
  marked : (k : ℕ) → k < l.shape-index → AreMarked (shape_at l.flat.shapes k).right (slice_index_or l.rows.items k []);
}
