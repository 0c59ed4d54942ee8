-- The CONSTITUENTS that lack a WITH, as the tables tell it.
use Rattle.std.specs.Prelude.{◌≡◌, ℕ, Bool, true, false, ◌&&◌, IsTrue, List, Option, Some, None}
use Rattle.std.specs.List.{list_any}
use Rattle.lido_syntax.specs.declared.spec.Pair.{Pair}
use Rattle.lido_syntax.specs.declared.spec.With.{With}
use Rattle.rule_tables.specs.declared.table.SymbolRow.{SymbolRow}
use Rattle.constituents_expand.specs.declared.symbols.Symbols.{Symbols}
use Rattle.constituents_expand.specs.Listings.{listed_by, gives_value}
use Rattle.constituents_expand.specs.Uses.{Standing}

abbrev pub is_without : Option With → Bool
is_without None = true
is_without (Some with) = false

-- it has no WITH, and its value is used
abbrev pub is_plain : Standing → Bool
is_plain u = is_without u.constituents.with && u.valued

module _ (symbols : Symbols) (rows : List SymbolRow) where
  -- the pairs list an attribute of a nonterminal that isn't VOID
  abbrev pub lists_value : List Pair → Bool
  lists_value pairs = list_any (λ row. gives_value row (listed_by symbols pairs row)) rows

  abbrev pub lacks_with : Standing → Bool
  lacks_with u = is_plain u && lists_value u.constituents.pairs

  -- it lacks a WITH, at this place
  abbrev pub IsLackAt : Standing → ℕ → Type 0
  IsLackAt u at = IsTrue (lacks_with u) × (at ≡ u.constituents.at)
