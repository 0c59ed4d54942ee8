use Rattle.std.proofs.Common.{◌≡◌, ℕ, ◌<◌, Some, []}
use Rattle.std.specs.Prelude.{slice_get}
use Rattle.partitions.specs.declared.search.Mark.TheVariants.{Fresh}
use Rattle.partitions.specs.Search.{IsSearch}
use Rattle.partitions.proofs.search.find_cycle.Given as goal

-- the roots so far are closed
abbrev pub invariant-loop-root : goal.invariant-loop-root
invariant-loop-root l = record {
  search : IsSearch l.preds l.search.marks.items l.search.tried.items l.search.path.items l.search.count;
  path : l.search.path.items ≡ [];
  roots : (v : ℕ) → v < l.root → ¬ (slice_get l.search.marks.items v ≡ Some Fresh);
}
