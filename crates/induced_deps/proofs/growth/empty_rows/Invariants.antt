use Rattle.std.proofs.Common.{◌≡◌, ℕ, length, map, take}
use Rattle.flat_grammar.specs.declared.flat.FlatSymbol.{FlatSymbol}
use Rattle.induced_deps.specs.Rounds.{IsBit, rows_of}
use Rattle.induced_deps.proofs.growth.empty_rows.Given as goal

abbrev pub invariant-loop-symbol : goal.invariant-loop-symbol
invariant-loop-symbol l = record {
  rows : map (λ (x : FlatSymbol). length x.attrs) (take l.symbol-index l.flat.symbols) ≡ map length l.ids.items;
  none : (x a b : ℕ) → IsBit (rows_of l.ids.items x) a b → ⊥;
}
