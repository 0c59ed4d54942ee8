-- What is peeled of a symbol's attributes, as the bits of words.
use Rattle.std.specs.Prelude.{◌≡◌, ℕ, ◌+◌, ◌*◌, ◌⊎◌, ◌↔◌, List, length, Some, slice_get, IsBitSet}
use Rattle.lido_base.specs.declared.ids.SymId.{SymId}
use Rattle.lido_base.specs.declared.ids.AttrId.{AttrId}
use Rattle.flat_grammar.specs.declared.flat.FlatSymbol.{FlatSymbol}
use Rattle.flat_grammar.specs.declared.flat.FlatRule.{FlatRule}
use Rattle.flat_grammar.specs.Rules.{attrs_of}
use Rattle.flat_grammar.specs.Dependencies.{IDS}
use Rattle.flat_grammar.specs.Partition.{IsPeeled, IsEarlier}
use Rattle.partitions.specs.declared.peeling.Levels.{Levels}

-- a member whose row lies within two sets
abbrev pub IsKept : List ℕ → ℕ → ℕ → ℕ → Type 0
IsKept rows set allowed j = IsBitSet set j × (row : ℕ) × (slice_get rows j ≡ Some row) × ((b : ℕ) → IsBitSet row b → IsBitSet allowed b ⊎ IsBitSet set b)

module _ (symbols : List FlatSymbol) (rules : List FlatRule) (x : SymId) where
  -- the rows of bits are the induced dependencies of the symbol
  pub record AreRows (rows : List ℕ) : Type 0 where
    pub each : length rows ≡ length (attrs_of symbols x)
    pub bits : (a b : AttrId) (row : ℕ) → slice_get rows a.0 ≡ Some row → IsBitSet row b.0 ↔ IDS rules x a b

  -- the set has what is in the first so many classes
  abbrev pub ArePeeled : ℕ → ℕ → Type 0
  ArePeeled k set = (a : AttrId) → IsPeeled symbols rules x k a ↔ IsBitSet set a.0

  -- what is peeled before so many pairs of classes, and after each class of the next pair
  pub record AreLevels (j : ℕ) (levels : Levels) : Type 0 where
    pub later : ArePeeled (2 * j) levels.later
    pub synthesized : ArePeeled (2 * j + 1) levels.synthesized
    pub both : ArePeeled (2 * j + 2) levels.both

  -- the sets are those of the first pairs of classes
  abbrev pub AreAllLevels : List Levels → Type 0
  AreAllLevels all = (j : ℕ) (levels : Levels) → slice_get all j ≡ Some levels → AreLevels j levels

  -- no more is ever peeled than in the first so many classes
  abbrev pub IsLast : ℕ → Type 0
  IsLast n = (k : ℕ) (a : AttrId) → IsPeeled symbols rules x k a → IsPeeled symbols rules x n a

  -- the rows of bits say which attributes are in later classes than an attribute
  pub record AreLaterRows (rows : List ℕ) : Type 0 where
    pub each : length rows ≡ length (attrs_of symbols x)
    pub bits : (a b : AttrId) (row : ℕ) → slice_get rows a.0 ≡ Some row → IsBitSet row b.0 ↔ IsEarlier symbols rules x a b

-- b is in one of these three sets, and k is not
abbrev pub IsPast : Levels → ℕ → ℕ → Type 0
IsPast levels k b = (IsBitSet levels.later b × ¬ IsBitSet levels.later k) ⊎ ((IsBitSet levels.synthesized b × ¬ IsBitSet levels.synthesized k) ⊎ (IsBitSet levels.both b × ¬ IsBitSet levels.both k))

-- b is in a later class than k, by one of the sets
abbrev pub IsPastAmong : List Levels → ℕ → ℕ → Type 0
IsPastAmong all k b = (j : ℕ) × (levels : Levels) × (slice_get all j ≡ Some levels) × IsPast levels k b
