-- The extended dependencies of a rule as a graph over numbered vertices.
use Rattle.std.specs.Prelude.{◌≡◌, ℕ, suc, ◌+◌, ◌<◌, ◌≤◌, ◌⊎◌, List, length, Some, slice_get, IsSome, IsBitSet, Contains}
use Rattle.lido_base.specs.declared.ids.SymId.{SymId}
use Rattle.flat_grammar.specs.declared.flat.Occ.{Occ}
use Rattle.flat_grammar.specs.declared.flat.FlatSymbol.{FlatSymbol}
use Rattle.flat_grammar.specs.declared.flat.FlatRule.{FlatRule}
use Rattle.flat_grammar.specs.declared.flat.FlatComp.{FlatComp}
use Rattle.flat_grammar.specs.Rules.{symbols_of, symbol_at, dependencies}
use Rattle.flat_grammar.specs.WellFormed.{attribute_of}
use Rattle.flat_grammar.specs.Dependencies.{DP}
use Rattle.flat_grammar.specs.declared.plan.CycleStep.{CycleStep}
use Rattle.flat_grammar.specs.Cycles.{DS, EDP, IsAtMost}
use Rattle.partitions.specs.Graph.{IsEdge}
use Rattle.partitions.specs.Symbols.{rows_at}

-- the attribute occurrence comes before that of place a at occurrence k
abbrev pub IsBefore : ℕ → ℕ → Occ → Type 0
IsBefore k a o = (o.occ < k) ⊎ ((o.occ ≡ k) × (o.attr.0 < a))

module _ (symbols : List FlatSymbol) (r : FlatRule) where
  -- the vertices before a place, in order, and for each occurrence the number of its first
  pub record AreVerticesBefore (k a : ℕ) (occs : List Occ) (starts : List ℕ) : Type 0 where
    pub to : (v : ℕ) (o : Occ) → slice_get occs v ≡ Some o → IsBefore k a o × IsSome (attribute_of symbols r o)
    pub from : (o : Occ) → IsBefore k a o → IsSome (attribute_of symbols r o) → (start : ℕ) × (slice_get starts o.occ ≡ Some start) × (slice_get occs (start + o.attr.0) ≡ Some o)
    pub ascending : (v w : ℕ) (o p : Occ) → v ≤ w → slice_get occs v ≡ Some o → slice_get occs w ≡ Some p → IsAtMost o p
    pub apart : (v w : ℕ) (o : Occ) → slice_get occs v ≡ Some o → slice_get occs w ≡ Some o → v ≡ w
    pub bounded : (i start : ℕ) → slice_get starts i ≡ Some start → start ≤ length occs

  -- the vertices of the rule, in order, and for each occurrence the number of its first
  abbrev pub AreVertices : List Occ → List ℕ → Type 0
  AreVertices occs starts = AreVerticesBefore (length (symbols_of r)) 0 occs starts

  -- all of them, no more than a rule may have
  pub record AreNumbered (occs : List Occ) (starts : List ℕ) : Type 0 where
    pub vertices : AreVertices occs starts
    pub each : length starts ≡ 1 + length r.right
    pub few : length occs ≤ 1024

-- the row of a has b
abbrev pub IsSetIn : List ℕ → ℕ → ℕ → Type 0
IsSetIn rows a b = (row : ℕ) × (slice_get rows a ≡ Some row) × IsBitSet row b

-- a comes before b by the induced dependencies or by the classes
abbrev pub IsComing : List ℕ → List ℕ → ℕ → ℕ → Type 0
IsComing ids later a b = IsSetIn ids a b ⊎ IsSetIn later a b

-- the number of an attribute occurrence
abbrev pub IsNumberOf : List ℕ → Occ → ℕ → Type 0
IsNumberOf starts o n = (start : ℕ) × (slice_get starts o.occ ≡ Some start) × (n ≡ start + o.attr.0)

-- at the occurrence of o, an attribute with the number u comes before o
abbrev pub IsComingAt : FlatRule → List (List ℕ) → List (List ℕ) → List ℕ → Occ → ℕ → Type 0
IsComingAt r ids later starts o u = (x : SymId) × (symbol_at r o.occ ≡ Some x) × (start : ℕ) × (slice_get starts o.occ ≡ Some start)
    × (a : ℕ) × (u ≡ start + a) × IsComing (rows_at ids x.0) (rows_at later x.0) a o.attr.0

-- the two attribute occurrences have these numbers
abbrev pub IsPairAt : List ℕ → Occ → Occ → ℕ → ℕ → Type 0
IsPairAt starts o p u v = IsNumberOf starts o u × IsNumberOf starts p v

-- one of these attribute occurrences has the number u, and the goal the number v
abbrev pub IsAmongAt : List ℕ → List Occ → Occ → ℕ → ℕ → Type 0
IsAmongAt starts from to u v = (o : Occ) × Contains from o × IsPairAt starts o to u v

-- one of these computations leads from u to v
abbrev pub IsDirectBy : List ℕ → List FlatComp → ℕ → ℕ → Type 0
IsDirectBy starts comps u v = (c : FlatComp) × Contains comps c × IsAmongAt starts (dependencies c) c.goal u v

-- the place behind another in a circle of so many
abbrev pub IsNextPlace : ℕ → ℕ → ℕ → Type 0
IsNextPlace count j k = ((suc j < count) × (k ≡ suc j)) ⊎ ((suc j ≡ count) × (k ≡ 0))

-- the induced rows have an edge between two attributes of an occurrence
abbrev pub IsInducedAt : FlatRule → List (List ℕ) → Occ → Occ → Type 0
IsInducedAt r ids u v = (x : SymId) × (symbol_at r u.occ ≡ Some x) × IsSetIn (rows_at ids x.0) u.attr.0 v.attr.0

module _ (symbols : List FlatSymbol) (rules : List FlatRule) (r : FlatRule) where
  -- an edge of the extended dependencies, with any label
  abbrev pub IsExtended : Occ → Occ → Type 0
  IsExtended u v = DP r u v ⊎ ((u.occ ≡ v.occ) × (x : SymId) × (symbol_at r u.occ ≡ Some x) × DS symbols rules x u.attr v.attr)

  -- the graph has the edges of the extended dependencies
  pub record AreExtended (occs : List Occ) (starts : List ℕ) (preds : List (List ℕ)) : Type 0 where
    pub count : length preds ≡ length occs
    pub to : (u v : ℕ) → IsEdge preds u v → (o : Occ) × (p : Occ) × (slice_get occs u ≡ Some o) × (slice_get occs v ≡ Some p) × IsExtended o p
    pub from : (o p : Occ) → IsExtended o p → (u : ℕ) × (v : ℕ) × IsNumberOf starts o u × IsNumberOf starts p v × (v < length occs) × IsEdge preds u v

  -- the attribute occurrences can be numbered so that each extended dependency rises
  abbrev pub IsRanked : Type 0
  IsRanked = (rank : Occ → ℕ) × (bound : ℕ) × ((o p : Occ) → IsExtended o p → (rank o < rank p) × (rank p < bound))

  -- an edge leads from each vertex of the cycle to the next
  abbrev pub AreStepsOf : List Occ → List ℕ → Type 0
  AreStepsOf occs cycle = (j k u v : ℕ) (o p : Occ) → IsNextPlace (length cycle) j k → slice_get cycle j ≡ Some u → slice_get cycle k ≡ Some v → slice_get occs u ≡ Some o → slice_get occs v ≡ Some p → IsExtended o p

  -- the step begins at a vertex of the cycle, and has the label of the edge to the next
  abbrev pub IsStepOf : List Occ → List ℕ → ℕ → CycleStep → Type 0
  IsStepOf occs cycle j s = (k : ℕ) × (u : ℕ) × (v : ℕ) × (p : Occ) × IsNextPlace (length cycle) j k × (slice_get cycle j ≡ Some u) × (slice_get cycle k ≡ Some v) × (slice_get occs u ≡ Some s.from) × (slice_get occs v ≡ Some p)
      × EDP symbols rules r s.from p s.label
