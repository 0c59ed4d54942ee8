use Rattle.std.specs.Prelude.{sum_by}
use Rattle.std.proofs.Common.{take}
use Rattle.table_faults.specs.Limits.{Counts, size_of}
use Rattle.table_faults.proofs.limits.body_size.Given as goal

abbrev pub invariant-loop-comp : goal.invariant-loop-comp
invariant-loop-comp l = Counts (sum_by size_of (take l.comp-index l.body)) l.size
