-- Inheritance as rows of bits, and the classes that are left for a goal.
use Rattle.std.specs.Prelude.{◌≡◌, ℕ, ◌<◌, ◌≤◌, ◌↔◌, Bool, false, ◌&&◌, nat_eq, nat_le, if◌then◌else◌, IsTrue, map, List, Option, Some, None, slice_get, is_some, unwrap_or, MatchOption, length}
use Rattle.std.proofs.Common.{Vec, Global}
use Rattle.lido_base.specs.Reach.{Reaches}
use Rattle.lido_base.specs.declared.ids.SymId.{SymId}
use Rattle.least_paths.specs.Graph.{has_edge}
use Rattle.lido_syntax.specs.Sets.{Inherits}
use Rattle.rule_tables.specs.declared.table.SymbolRow.{SymbolRow}
use Rattle.rule_tables.specs.declared.table.Tables.{Tables}
use Rattle.rule_tables.specs.TablesOf.{named_symbols}
use Rattle.symbol_inherit.specs.Index.{noted}
use Rattle.computation_aims.specs.declared.aims.Aim.{Aim}
use Rattle.symbol_inherit.specs.declared.classes.Classes.{Classes}
use Rattle.symbol_inherit.specs.declared.index.Index.{Index}
use Rattle.symbol_inherit.specs.declared.notes.Own.{Own}
use Rattle.symbol_inherit.specs.declared.left.Left.{Left}

abbrev pub is_set : List Bool → ℕ → Bool
is_set row x = unwrap_or (slice_get row x) false

-- the rows say that x inherits y
abbrev pub is_set_in : Option (Vec Bool Global) → ℕ → Bool
is_set_in None x = false
is_set_in (Some row) x = is_set row.items x

abbrev pub inherits_by : Classes → ℕ → ℕ → Bool
inherits_by classes x y = is_set_in (slice_get classes.heirs.items y) x

-- the rows are those of the tables
abbrev pub AreHeirs : Tables → Classes → Type 0
AreHeirs t classes = (x y s class : ℕ) → slice_get (named_symbols t) x ≡ Some s → slice_get (named_symbols t) y ≡ Some class
    → IsTrue (inherits_by classes x y) ↔ Inherits t.spec s class

-- the one that stands first
abbrev pub earlier_of : Option Left → Left → Left
earlier_of None next = next
earlier_of (Some left) next = if nat_le left.own.at next.own.at then left else next

-- the number is the one that is excepted
abbrev pub is_that : Option ℕ → ℕ → Bool
is_that None y = false
is_that (Some e) y = nat_eq e y

-- the classes that the row's items name behind INHERITS, and the graph of them
abbrev pub edges_of : SymbolRow → List ℕ
edges_of row = map (λ (class : SymId). class.0) row.classes

abbrev pub graph_of : List SymbolRow → List (List ℕ)
graph_of = map edges_of

-- the vertices from which edges lead to y, one at least
abbrev pub AreReaching : List (List ℕ) → ℕ → List Bool → Type 0
AreReaching graph y set = (x : ℕ) → IsTrue (is_set set x) ↔ Reaches (λ z. has_edge graph z y) (has_edge graph) x

-- for each of the first vertices those that reach it
pub record AreRows (graph : List (List ℕ)) (n : ℕ) (rows : List (Vec Bool Global)) : Type 0 where
  pub count : length rows ≡ n
  pub each : (y : ℕ) (row : Vec Bool Global) → slice_get rows y ≡ Some row → AreReaching graph y row.items

abbrev pub HasReaching : List (List ℕ) → Classes → Type 0
HasReaching graph classes = AreRows graph (length graph) classes.heirs.items

module _ (classes : Classes) (index : Index) (x : ℕ) (aim : Aim) where
  -- a class that x inherits and that computes the aim
  abbrev pub is_candidate : ℕ → Bool
  is_candidate y = inherits_by classes x y && is_some (noted index y aim)

  -- another such class below n inherits it
  abbrev pub IsDropped : ℕ → ℕ → Type 0
  IsDropped n y = (o : ℕ) × (o < n) × IsTrue (is_candidate o && inherits_by classes o y)

  -- the class is a candidate that no other one below n inherits
  abbrev pub IsLeftBy : ℕ → ℕ → Type 0
  IsLeftBy n y = IsTrue (is_candidate y) × ¬ IsDropped n y

  -- Of the classes below m that are left, but for one that is excepted, this one's computation stands first; there is none where
  -- there is no such class.
  pub record IsEarliest (n m : ℕ) (except : Option ℕ) (best : Left) : Type 0 where
    pub within : best.class < m
    pub left : IsLeftBy n best.class
    pub other : is_that except best.class ≡ false
    pub own : noted index best.class aim ≡ Some best.own
    pub first : (y : ℕ) (own : Own) → y < m → IsLeftBy n y → is_that except y ≡ false → noted index y aim ≡ Some own → best.own.at ≤ own.at

  abbrev pub IsNone : ℕ → ℕ → Option ℕ → Type 0
  IsNone n m except = (y : ℕ) → y < m → IsLeftBy n y → is_that except y ≡ false → ⊥

  abbrev pub IsBest : ℕ → ℕ → Option ℕ → Option Left → Type 0
  IsBest n m except best = MatchOption best (IsNone n m except) (IsEarliest n m except)
