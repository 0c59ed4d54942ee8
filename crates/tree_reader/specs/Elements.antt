-- A table of the elements of lists.
use Rattle.std.specs.Prelude.{◌≡◌, ◌<◌, ℕ, Bool, false, List, [], length, slice_index_or}
use Rattle.std.specs.List.{list_any}
use Rattle.lido_base.specs.declared.ids.SymId.{SymId}
use Rattle.flat_grammar.specs.declared.flat.Shape.{Shape}
use Rattle.flat_grammar.specs.WellFormed.{is_same_symbol}
use Rattle.tree_reader.specs.Asking.{shape_at}

-- each symbol that the row has is marked exactly where it is among the elements
abbrev pub AreMarked : List SymId → List Bool → Type 0
AreMarked elements row = (s : ℕ) → s < length row → slice_index_or row s false ≡ list_any (is_same_symbol (record { 0 = s })) elements

-- each shape has such a row
pub record AreElementRows (shapes : List Shape) (rows : List (List Bool)) : Type 0 where
  pub each : length rows ≡ length shapes
  pub marked : (k : ℕ) → k < length shapes → AreMarked (shape_at shapes k).right (slice_index_or rows k [])
