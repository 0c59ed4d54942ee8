-- What a table keeps of the points of a pattern.
use Rattle.std.specs.Prelude.{◌≡◌, ◌+◌, ℕ, nat_eq, if◌then◌else◌, List, length, Option, Some, None, slice_get, unwrap_or}
use Rattle.std.specs.List.{list_any}
use Rattle.lido_base.specs.declared.value.ValueType.{ValueType}
use Rattle.ptg_patterns.specs.declared.arguments.Arguments.{Arguments}
use Rattle.ptg_patterns.specs.declared.written.Point.{Point}
use Rattle.ptg_patterns.specs.Meaning.{arguments, first_type, greatest}
use Rattle.ptg_patterns.specs.Clashes.{has_number, has_no_number}

-- The type at a number, if the table has one.
abbrev pub type_at : List (Option ValueType) → ℕ → Option ValueType
type_at types j = unwrap_or (slice_get types j) None

-- A type put at a number where there was none.
abbrev pub set_at : (ℕ → Option ValueType) → ℕ → ValueType → ℕ → Option ValueType
set_at types number kind j = elim (types j) [ Some other ↦ Some other | None ↦ if nat_eq number j then Some kind else None ]

-- The table keeps what these points say.
pub record RecordsPoints (table : Arguments) (points : List Point) : Type 0 where
  pub count : table.count ≡ length points
  pub has_bare : table.has_bare ≡ list_any has_no_number points
  pub has_numbered : table.has_numbered ≡ list_any has_number points
  pub types : (j : ℕ) → type_at table.types.items j ≡ first_type j (arguments 1 points)
  pub size : length table.types.items ≡ greatest (arguments 1 points) + 1
