use Rattle.std.proofs.Common.{◌≡◌, map, string_bytes, take}
use Rattle.job_text.specs.CommandLine.{splits}
use Rattle.job_text.proofs.command_line.splits.Given as goal

abbrev pub invariant-loop-index : goal.invariant-loop-index
invariant-loop-index l = l.found ≡ splits (take l.index (map string_bytes l.words))
