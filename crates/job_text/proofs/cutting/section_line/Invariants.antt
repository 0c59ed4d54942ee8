use Rattle.std.proofs.Common.{◌≤◌, ◌<◌, ◌+◌, ◌-◌, ℕ, length}
use Rattle.job_text.specs.Lines.{IsLineStart, Says}
use Rattle.job_text.proofs.cutting.section_line.Given as goal

abbrev pub invariant-loop-from : goal.invariant-loop-from
invariant-loop-from l = record {
  behind : l.start ≤ l.from;
  within : l.from ≤ length l.bytes + 1;
  line : IsLineStart l.bytes l.from;
  passed : (from to : ℕ) → l.start ≤ from → from < l.from → ¬ Says l.name l.bytes from to;
}

abbrev pub decreases-loop-from : goal.decreases-loop-from
decreases-loop-from l = length l.bytes + 1 - l.from
