-- The graph of the plain rules, and edges that lead from no closed vertex.
use Rattle.std.specs.Prelude.{◌≡◌, ℕ, ◌↔◌, Bool, not, ◌&&◌, IsTrue, List, length}
use Rattle.least_paths.specs.Graph.{IsGraph, has_edge, is_in}
use Rattle.rule_tables.specs.declared.table.Tables.{Tables}
use Rattle.rule_tables.specs.PlainRules.{is_child, plain_rules}
use Rattle.rule_tables.specs.TablesOf.{named_symbols}

-- an edge that leads from x, which isn't closed, to y
abbrev pub down_edge : List (List ℕ) → List Bool → ℕ → ℕ → Bool
down_edge graph closed x y = not (is_in closed x) && has_edge graph x y

-- the graph of the plain rules
pub record IsChildGraph (t : Tables) (graph : List (List ℕ)) : Type 0 where
  pub count : length graph ≡ length t.symbols
  pub is_graph : IsGraph graph
  pub edges : (x y : ℕ) → IsTrue (has_edge graph x y) ↔ IsTrue (is_child (plain_rules t.spec (named_symbols t)) x y)
