use Rattle.std.proofs.Common.{◌≡◌, ℕ, Bool, Some, length}
use Rattle.std.specs.Prelude.{slice_get}
use Rattle.subtree_split.specs.SplitNodes.{is_split_symbol}
use Rattle.subtree_split.proofs.symbols.split_symbols.Given as goal

-- the symbols so far
abbrev pub invariant-loop-s : goal.invariant-loop-s
invariant-loop-s l = record {
  count : length l.splits.items ≡ l.s;
  each : (k : ℕ) (b : Bool) → slice_get l.splits.items k ≡ Some b → b ≡ is_split_symbol l.flat.symbols l.flat.rules l.flat.shapes l.names (record { 0 = k });
}
