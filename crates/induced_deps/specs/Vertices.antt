-- The vertices of a rule are its attribute occurrences, numbered by occurrence and then by attribute.
use Rattle.std.specs.Prelude.{◌≡◌, ◌+◌, ◌<◌, ◌≤◌, ℕ, List, length, sum_by, take, Some, slice_get, slice_index_or, IsBitSet, Contains, All}
use Rattle.lido_base.specs.declared.ids.SymId.{SymId}
use Rattle.flat_grammar.specs.declared.flat.Occ.{Occ}
use Rattle.flat_grammar.specs.declared.flat.FlatSymbol.{FlatSymbol}
use Rattle.flat_grammar.specs.declared.flat.FlatRule.{FlatRule}
use Rattle.flat_grammar.specs.declared.flat.FlatComp.{FlatComp}
use Rattle.flat_grammar.specs.Rules.{symbols_of, symbol_at, attrs_of, dependencies}
use Rattle.induced_deps.specs.declared.graph.Place.{Place}

module _ (symbols : List FlatSymbol) where
  -- how many attributes the symbol has
  abbrev pub width : SymId → ℕ
  width x = length (attrs_of symbols x)

  module _ (r : FlatRule) where
    -- how many vertices stand before those of an occurrence
    abbrev pub offset : ℕ → ℕ
    offset k = sum_by width (take k (symbols_of r))

    -- how many vertices there are
    abbrev pub vertices : ℕ
    vertices = sum_by width (symbols_of r)

    -- the number of a vertex
    abbrev pub number : Occ → ℕ
    number o = offset o.occ + o.attr.0

    -- the symbol at the occurrence has the attribute
    pub record IsVertex (o : Occ) : Type 0 where
      pub symbol : SymId
      pub at : symbol_at r o.occ ≡ Some symbol
      pub within : o.attr.0 < width symbol

    -- the place tells the symbol of this occurrence, and which vertices are its own
    pub record IsPlace (k : ℕ) (p : Place) : Type 0 where
      pub symbol : symbol_at r k ≡ Some p.symbol
      pub offset_is : p.offset ≡ offset k
      pub width_is : p.width ≡ width p.symbol

    -- the places of all occurrences, in order
    pub record ArePlaces (places : List Place) : Type 0 where
      pub count : length places ≡ length (symbols_of r)
      pub each : (k : ℕ) (p : Place) → slice_get places k ≡ Some p → IsPlace k p

-- ---- the same by the places

-- a place without vertices
abbrev pub no_place : Place
no_place = record { symbol = record { 0 = 0 }; offset = 0; width = 0 }

module _ (places : List Place) where
  -- a place has the vertex
  pub record IsPlaced (o : Occ) : Type 0 where
    pub place : Place
    pub at : slice_get places o.occ ≡ Some place
    pub within : o.attr.0 < place.width

  -- the number of a vertex
  abbrev pub number_in : Occ → ℕ
  number_in o = (slice_index_or places o.occ no_place).offset + o.attr.0

  -- the vertices of all places are among so many
  abbrev pub AreWithin : ℕ → Type 0
  AreWithin count = All (λ (p : Place). p.offset + p.width ≤ count) places

  -- the edges of some dependencies of one vertex
  abbrev pub ToGoal : List Occ → Occ → ℕ → ℕ → Type 0
  ToGoal before goal v w = (u : Occ) × Contains before u × (v ≡ number_in u) × (w ≡ number_in goal)

  -- the direct dependencies of these computations
  abbrev pub OfComps : List FlatComp → ℕ → ℕ → Type 0
  OfComps comps v w = (c : FlatComp) × Contains comps c × ToGoal (dependencies c) c.goal v w

  -- the places have the vertices of the computation
  abbrev pub HasPlaces : FlatComp → Type 0
  HasPlaces c = IsPlaced c.goal × ((u : Occ) → Contains (dependencies c) u → IsPlaced u)

-- the vertices at a place whose attributes are in the word
abbrev pub IsAtPlace : Place → ℕ → ℕ → Type 0
IsAtPlace p word w = (b : ℕ) × (b < p.width) × IsBitSet word b × (w ≡ p.offset + b)
