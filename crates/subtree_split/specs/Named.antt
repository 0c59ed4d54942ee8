-- Nonterminals by their names.
use Rattle.std.specs.Prelude.{◌≡◌, ℕ, false, List, Some, None, slice_get}
use Rattle.lido_base.specs.declared.ids.SymId.{SymId}
use Rattle.flat_grammar.specs.declared.flat.FlatSymbol.{FlatSymbol}
use Rattle.flat_grammar.specs.declared.flat.FlatRule.{FlatRule}
use Rattle.flat_grammar.specs.declared.flat.Shape.{Shape}
use Rattle.flat_grammar.specs.FlatTrees.{is_cell}

-- The symbol is a nonterminal of the written grammar, neither a terminal nor a list's cell, and this is its name.
pub record IsNonterminalNamed (symbols : List FlatSymbol) (rules : List FlatRule) (shapes : List Shape) (texts : List (List ℕ)) (name : List ℕ) (s : SymId) : Type 0 where
  pub symbol : FlatSymbol
  pub is_symbol : slice_get symbols s.0 ≡ Some symbol
  pub is_nonterminal : symbol.terminal ≡ None
  pub is_no_cell : is_cell rules shapes s ≡ false
  pub is_named : slice_get texts symbol.name.0 ≡ Some name
