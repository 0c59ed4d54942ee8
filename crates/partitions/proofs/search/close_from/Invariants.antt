use Rattle.std.proofs.Common.{◌≡◌, Some}
use Rattle.std.specs.Prelude.{slice_get, sum_by}
use Rattle.partitions.specs.declared.search.Mark.TheVariants.{Fresh}
use Rattle.partitions.specs.Search.{IsSearch, IsLater, weight}
use Rattle.partitions.proofs.search.close_from.Given as goal

-- the search goes on, and the root is not fresh any more
abbrev pub invariant-loop-v : goal.invariant-loop-v
invariant-loop-v l = record {
  search : IsSearch l.preds l.search.marks.items l.search.tried.items l.search.path.items l.search.count;
  later : IsLater l.fn.search.marks.items l.search.marks.items;
  root : ¬ (slice_get l.search.marks.items l.fn.root ≡ Some Fresh);
}

abbrev pub decreases-loop-v : goal.decreases-loop-v
decreases-loop-v l = sum_by weight l.search.marks.items
