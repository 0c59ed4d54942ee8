-- Who needs the sets of INCLUDINGs, and the set that the root needs.
use Rattle.std.specs.Prelude.{◌≡◌, ℕ, ◌<◌, ◌↔◌, nat_eq, IsTrue, Bool, List, map, length, Some, slice_get}
use Rattle.lido_base.specs.Reach.{Reaches, IsLeastPath, IsPathFrom}
use Rattle.lido_syntax.specs.declared.fault.SpecFault.{SpecFault}
use Rattle.lido_syntax.specs.declared.fault.SpecFault.TheVariants as fault
use Rattle.least_paths.specs.Graph.{is_in}
use Rattle.rule_tables.specs.declared.table.Tables.{Tables}
use Rattle.remote_lists.specs.Reach.{down_edge}
use Rattle.remote_lists.specs.Paths.{name_in}
use Rattle.including_sets.specs.declared.sets.PairSet.{PairSet}

module _ (graph : List (List ℕ)) where
  -- the set tells its users and for whom it lists something of all vertices
  pub record IsOver (set : PairSet) : Type 0 where
    pub users : length set.users ≡ length graph
    pub listed : length set.listed ≡ length graph

  -- the need goes up to a left side for which nothing is listed
  abbrev pub passes : PairSet → ℕ → ℕ → Bool
  passes set = down_edge graph set.listed

  -- the set of those who need it
  pub record IsNeedOf (set : PairSet) (row : List Bool) : Type 0 where
    pub count : length row ≡ length graph
    pub exactly : (x : ℕ) → IsTrue (is_in row x) ↔ Reaches (is_in set.users) (passes set) x

  -- the least of the shortest paths from the root to one that uses the set, and that there is none
  abbrev pub IsPathOf : ℕ → PairSet → List ℕ → Type 0
  IsPathOf root set = IsLeastPath (nat_eq root) (is_in set.users) (passes set)

  abbrev pub HasNoPath : ℕ → PairSet → Type 0
  HasNoPath root set = (path : List ℕ) → ¬ IsPathFrom (nat_eq root) (is_in set.users) (passes set) path

module _ (t : Tables) (graph : List (List ℕ)) where
  -- the fault of a set that the root needs
  abbrev pub IsFaultOf : PairSet → SpecFault → Type 0
  IsFaultOf set f = (path : List ℕ) × IsPathOf graph t.root.0 set path × (f ≡ fault.NoIncluding (map (name_in t.symbols) path))

  -- the fault of the first set that the root needs
  pub record IsFirstFault (sets : List PairSet) (f : SpecFault) : Type 0 where
    pub i : ℕ
    pub set : PairSet
    pub at : slice_get sets i ≡ Some set
    pub first : (j : ℕ) (other : PairSet) → j < i → slice_get sets j ≡ Some other → HasNoPath graph t.root.0 other
    pub its_fault : IsFaultOf set f
