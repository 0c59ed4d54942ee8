use Rattle.std.proofs.Common.{◌≡◌, ℕ, take}
use Rattle.lido_syntax.specs.Production.{places_from}
use Rattle.lido_symbols.specs.Occurrences.{numbers, row_of}
use Rattle.lido_symbols.proofs.production.Production.of.Given as goal

abbrev pub invariant-loop-k : goal.invariant-loop-k
invariant-loop-k l = record {
  list : l.found.list ≡ l.initial.found.list;
  left : l.found.left ≡ l.initial.found.left;
  right : l.found.right ≡ l.initial.found.right;
  rows : (x : ℕ) → row_of l.found x ≡ places_from 0 x (numbers (take l.k l.symbol-items));
}
