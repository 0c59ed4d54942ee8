-- How the induced dependencies of symbols and the edges of rules feed each other.
use Rattle.std.specs.Prelude.{◌≡◌, ◌⊎◌, ◌+◌, ◌-◌, ◌<◌, ◌≤◌, ◌^◌, ℕ, List, [], length, sum_by, slice_index_or, IsBitSet, Contains}
use Rattle.induced_deps.specs.declared.row.Row.{Row}
use Rattle.induced_deps.specs.declared.graph.Place.{Place}
use Rattle.induced_deps.specs.declared.due.Due.{Due}
use Rattle.induced_deps.specs.Due.{IsDue, IsUser}
use Rattle.induced_deps.specs.Rows.{Has}
use Rattle.induced_deps.specs.Vertices.{IsAtPlace}

-- a comes before b in these rows of a symbol
abbrev pub IsBit : List ℕ → ℕ → ℕ → Type 0
IsBit rows a b = IsBitSet (slice_index_or rows a 0) b

-- the rows of a symbol
abbrev pub rows_of : List (List ℕ) → ℕ → List ℕ
rows_of ids x = slice_index_or ids x []

-- edges from a vertex at a place, by the row of its attribute
abbrev pub OfRow : Place → ℕ → ℕ → ℕ → ℕ → Type 0
OfRow p from row v w = (v ≡ from) × IsAtPlace p row w

-- edges at a place, by the first rows of its symbol
abbrev pub OfRows : Place → List ℕ → ℕ → ℕ → ℕ → Type 0
OfRows p rows count v w = (a : ℕ) × (a < count) × (v ≡ p.offset + a) × IsAtPlace p (slice_index_or rows a 0) w

-- edges at these places, by the rows of their symbols
abbrev pub OfPlaces : List (List ℕ) → List Place → ℕ → ℕ → Type 0
OfPlaces ids places v w = (p : Place) × Contains places p × OfRows p (rows_of ids p.symbol.0) p.width v w

-- each place's symbol has a row for each of its attributes
pub record HasRow (ids : List (List ℕ)) (p : Place) : Type 0 where
  pub within : p.symbol.0 < length ids
  pub size : length (rows_of ids p.symbol.0) ≡ p.width
  pub few : p.width ≤ 256

-- how much the words of a set of vertices can still grow
abbrev pub room : List ℕ → ℕ
room words = sum_by (λ word. 2 ^ 128 - word) words

-- how much the rows of a symbol can still grow
abbrev pub room_of_rows : List ℕ → ℕ
room_of_rows rows = sum_by (λ row. 2 ^ 256 - row) rows

-- how much the rows of all symbols can still grow
abbrev pub room_of_all : List (List ℕ) → ℕ
room_of_all ids = sum_by room_of_rows ids

-- an edge joins two vertices of a place, which is one of this symbol
pub record IsAtSymbol (place : Place) (edges : List Row) (x a b : ℕ) : Type 0 where
  pub symbol : x ≡ place.symbol.0
  pub first : a < place.width
  pub second : b < place.width
  pub edge : Has edges (place.offset + a) (place.offset + b)

-- an edge joins two vertices of some place
abbrev pub IsProjected : List Place → List Row → ℕ → ℕ → ℕ → Type 0
IsProjected places edges x a b = (p : Place) × Contains places p × IsAtSymbol p edges x a b

-- each symbol has a list of users, which are rules
pub record IsReady (ids : List (List ℕ)) (due : Due) : Type 0 where
  pub symbols : length ids ≤ length due.users.items
  pub within : (x k : ℕ) → IsUser due.users.items x k → k < length due.flags.items

-- All users of a symbol whose rows changed are to be visited, and so is what was to be visited before.
pub record Tells (before after : Due) (old new : List (List ℕ)) : Type 0 where
  pub users : after.users ≡ before.users
  pub size : length after.flags.items ≡ length before.flags.items
  pub kept : (k : ℕ) → IsDue before.flags.items k → IsDue after.flags.items k
  pub told : (x : ℕ) → (rows_of new x ≡ rows_of old x) ⊎ ((k : ℕ) → IsUser before.users.items x k → IsDue after.flags.items k)
