use Rattle.std.proofs.Common.{◌≢◌, ◌≤◌, ◌<◌, ◌-◌, ℕ, length, slice_index}
use Rattle.job_text.specs.Lines.{line_feed}
use Rattle.job_text.proofs.cutting.line_end.Given as goal

abbrev pub invariant-loop-end : goal.invariant-loop-end
invariant-loop-end l = record { ordered : l.from ≤ l.end; within : l.end ≤ length l.bytes; whole : (k : ℕ) → l.from ≤ k → k < l.end → slice_index l.bytes k ≢ line_feed }

abbrev pub decreases-loop-end : goal.decreases-loop-end
decreases-loop-end l = length l.bytes - l.end
