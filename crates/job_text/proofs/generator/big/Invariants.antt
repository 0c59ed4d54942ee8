use Rattle.std.proofs.Common.{◌≡◌, ◌++◌}
use Rattle.std.specs.List.{repeat}
use Rattle.job_text.specs.declared.generator.TheConstants.{HEAD, BLOCK}
use Rattle.job_text.proofs.generator.big.Given as goal

abbrev pub invariant-loop : goal.invariant-loop
invariant-loop l = l.text.items ≡ HEAD.now ++ repeat l.counter BLOCK.now
