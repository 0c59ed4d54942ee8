-- The edges of a rule while they grow, and when they are all there.
use Rattle.std.specs.Prelude.{◌≡◌, ◌<◌, ◌≤◌, ℕ, List, map, length, Some, slice_get, Contains}
use Rattle.flat_grammar.specs.declared.flat.Occ.{Occ}
use Rattle.flat_grammar.specs.declared.flat.FlatSymbol.{FlatSymbol}
use Rattle.flat_grammar.specs.declared.flat.FlatRule.{FlatRule}
use Rattle.flat_grammar.specs.Dependencies.{DP, IDS, Joins}
use Rattle.induced_deps.specs.declared.row.Row.{Row}
use Rattle.induced_deps.specs.declared.graph.Place.{Place}
use Rattle.induced_deps.specs.declared.growth.Graph.{Graph}
use Rattle.induced_deps.specs.Rows.{Has, IsTransitive}
use Rattle.induced_deps.specs.Vertices.{IsVertex, ArePlaces, number, vertices, width}
use Rattle.induced_deps.specs.declared.due.Due.{Due}
use Rattle.induced_deps.specs.Due.{IsDone, IsUser}
use Rattle.induced_deps.specs.Rounds.{IsBit, rows_of, OfPlaces, IsProjected}

module _ (symbols : List FlatSymbol) (rules : List FlatRule) where
  -- a path of the rule's induced dependencies joins the vertices of these numbers
  pub record IsJoined (r : FlatRule) (v w : ℕ) : Type 0 where
    pub first : Occ
    pub last : Occ
    pub is_first : IsVertex symbols r first
    pub is_last : IsVertex symbols r last
    pub from : v ≡ number symbols r first
    pub to : w ≡ number symbols r last
    pub path : Joins rules r first last

  -- The edges have the direct dependencies of the rule and are transitive, and each is a path of the induced ones.
  pub record IsGraph (r : FlatRule) (places : List Place) (edges : List Row) : Type 0 where
    pub among : Contains rules r
    pub few : vertices symbols r ≤ 1024
    pub places_are : ArePlaces symbols r places
    pub size : length edges ≡ vertices symbols r
    pub transitive : IsTransitive edges
    pub sound : (v w : ℕ) → Has edges v w → IsJoined r v w
    pub direct : (u t : Occ) → DP r u t → Has edges (number symbols r u) (number symbols r t)

  -- a graph for each rule
  pub record AreGraphs (graphs : List Graph) : Type 0 where
    pub count : length graphs ≡ length rules
    pub each : (k : ℕ) (r : FlatRule) (g : Graph) → slice_get rules k ≡ Some r → slice_get graphs k ≡ Some g → IsGraph r g.places.items g.closure.rows.items

  -- each bit of the rows is an induced dependency
  abbrev pub AreSoundRows : List (List ℕ) → Type 0
  AreSoundRows ids = (x a b : ℕ) → IsBit (rows_of ids x) a b → IDS rules (record { 0 = x }) (record { 0 = a }) (record { 0 = b }) × (a < width symbols (record { 0 = x })) × (b < width symbols (record { 0 = x }))

-- a row for each attribute of each symbol
abbrev pub HaveRows : List FlatSymbol → List (List ℕ) → Type 0
HaveRows symbols ids = map (λ (x : FlatSymbol). length x.attrs) symbols ≡ map (λ (row : List ℕ). length row) ids

-- The rows and the edges have all of each other's.
pub record IsSettled (ids : List (List ℕ)) (g : Graph) : Type 0 where
  pub induced : (v w : ℕ) → OfPlaces ids g.places.items v w → Has g.closure.rows.items v w
  pub projected : (x a b : ℕ) → IsProjected g.places.items g.closure.rows.items x a b → IsBit (rows_of ids x) a b

-- each graph is settled
abbrev pub AreSettled : List (List ℕ) → List Graph → Type 0
AreSettled ids graphs = (k : ℕ) (g : Graph) → slice_get graphs k ≡ Some g → IsSettled ids g

-- each rule is a user of its symbols, and no other number is one
pub record AreUsers (graphs : List Graph) (users : List (List ℕ)) : Type 0 where
  pub all : (k : ℕ) (g : Graph) (p : Place) → slice_get graphs k ≡ Some g → Contains g.places.items p → IsUser users p.symbol.0 k
  pub within : (x k : ℕ) → IsUser users x k → k < length graphs

-- Each rule is a user of its symbols, and one that isn't to be visited is settled.
pub record AreDue (graphs : List Graph) (ids : List (List ℕ)) (due : Due) : Type 0 where
  pub count : length due.flags.items ≡ length graphs
  pub symbols : length ids ≤ length due.users.items
  pub users : AreUsers graphs due.users.items
  pub settled : (k : ℕ) (g : Graph) → slice_get graphs k ≡ Some g → IsDone due.flags.items k → IsSettled ids g
