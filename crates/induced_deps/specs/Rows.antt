-- Sets of vertices as rows of words, and relations as lists of rows.
use Rattle.std.specs.Prelude.{◌≡◌, ◌⊎◌, ℕ, ◌/◌, ◌%◌, List, [], slice_index_or, IsBitSet}
use Rattle.induced_deps.specs.declared.row.Row.{Row}

-- the set has the number: 128 numbers to a word
unfoldable pub IsIn : List ℕ → ℕ → Type 0
IsIn words k = IsBitSet (slice_index_or words (k / 128) 0) (k % 128)

-- the other set has all that the set has, word by word
unfoldable pub IsPart : List ℕ → List ℕ → Type 0
IsPart words others = (i b : ℕ) → IsBitSet (slice_index_or words i 0) b → IsBitSet (slice_index_or others i 0) b

-- a row without words
abbrev pub no_row : Row
no_row = record { words = [] }

module _ (rows : List Row) where
  -- an edge leads from v to w: row v has w
  abbrev pub Has : ℕ → ℕ → Type 0
  Has v w = IsIn (slice_index_or rows v no_row).words w

  -- a path of two edges is an edge
  abbrev pub IsTransitive : Type 0
  IsTransitive = (u v w : ℕ) → Has u v → Has v w → Has u w

  -- the row of the vertex has all that comes behind what it has
  abbrev pub IsClosedAt : ℕ → Type 0
  IsClosedAt v = (w x : ℕ) → Has v w → Has w x → Has v x

  -- all that comes right behind the passed ones is in the set
  abbrev pub ArePassed : List ℕ → List ℕ → Type 0
  ArePassed passed all = (w x : ℕ) → IsIn passed w → Has w x → IsIn all x

  -- the vertex is in the set, or an edge leads to it from one of the set
  abbrev pub IsBehind : List ℕ → ℕ → Type 0
  IsBehind set w = IsIn set w ⊎ ((v : ℕ) × IsIn set v × Has v w)

  -- an edge from the vertex, or from one that comes before it, to one of the set
  abbrev pub ComesTo : ℕ → List ℕ → ℕ → ℕ → Type 0
  ComesTo from set v w = ((v ≡ from) ⊎ Has v from) × IsIn set w

-- What edges and extra ones say together: they themselves, and paths of them.
pub data Follows (rows : List Row) (Extra : ℕ → ℕ → Type 0) : ℕ → ℕ → Type 0 where
  known : {v w : ℕ} → Has rows v w → Follows rows Extra v w
  extra : {v w : ℕ} → Extra v w → Follows rows Extra v w
  joined : {u v w : ℕ} → Follows rows Extra u v → Follows rows Extra v w → Follows rows Extra u w

-- The edges gained the extra ones, and nothing that doesn't follow.
pub record Gains (old new : List Row) (Extra : ℕ → ℕ → Type 0) : Type 0 where
  pub kept : (v w : ℕ) → Has old v w → Has new v w
  pub added : (v w : ℕ) → Extra v w → Has new v w
  pub follow : (v w : ℕ) → Has new v w → Follows old Extra v w

-- edges from one vertex to all of a set
abbrev pub FromOne : ℕ → List ℕ → ℕ → ℕ → Type 0
FromOne from set v w = (v ≡ from) × IsIn set w

-- no edges
abbrev pub Nothing : ℕ → ℕ → Type 0
Nothing v w = ⊥
