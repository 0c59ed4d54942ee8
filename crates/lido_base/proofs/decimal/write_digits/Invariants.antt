use Rattle.std.proofs.Common.{◌≡◌, ◌+◌, ◌≤◌, ◌++◌, length, drop}
use Rattle.std.specs.Fmt.{decimal}
use Rattle.lido_base.proofs.decimal.write_digits.Given as goal

abbrev pub invariant-loop-left : goal.invariant-loop-left
invariant-loop-left l = record {
  within : l.at ≤ 20;
  size : length l.buffer ≡ 20;
  count : l.at + length (decimal l.number) ≡ 20 + length (decimal l.left);
  written : decimal l.left ++ drop l.at l.buffer ≡ decimal l.number;
}

abbrev pub decreases-loop-left : goal.decreases-loop-left
decreases-loop-left l = l.left
