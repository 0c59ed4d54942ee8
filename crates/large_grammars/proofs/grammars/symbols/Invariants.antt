use Rattle.std.proofs.Common.{◌≡◌, length}
use Rattle.large_grammars.specs.Sizes.{EachAt, IsSymbol}
use Rattle.large_grammars.proofs.grammars.symbols.Given as goal

-- the symbols so far
abbrev pub invariant-loop-k : goal.invariant-loop-k
invariant-loop-k l = record { all : length l.list ≡ l.k; each : EachAt (IsSymbol l.fn.size) l.list }
