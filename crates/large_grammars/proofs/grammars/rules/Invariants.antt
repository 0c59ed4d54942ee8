use Rattle.std.proofs.Common.{◌≡◌, length}
use Rattle.large_grammars.specs.Sizes.{EachAt, IsRuleAt}
use Rattle.large_grammars.proofs.grammars.rules.Given as goal

-- the rules so far
abbrev pub invariant-loop-j : goal.invariant-loop-j
invariant-loop-j l = record { all : length l.list ≡ l.j; each : EachAt (IsRuleAt l.fn.size) l.list }
