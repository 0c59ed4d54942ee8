use Rattle.std.proofs.Common.{◌≡◌, ◌<◌, ℕ, map, string_bytes, None}
use Rattle.job_text.specs.CommandLine.{fault_at}
use Rattle.job_text.proofs.command_line.first_fault.Given as goal

abbrev pub invariant-loop-index : goal.invariant-loop-index
invariant-loop-index l = (k : ℕ) → k < l.index → fault_at (map string_bytes l.words) k ≡ None
