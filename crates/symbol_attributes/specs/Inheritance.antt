-- Inheritance among numbered symbols, as rows of tests.
use Rattle.std.specs.Prelude.{◌≡◌, ℕ, ◌⊎◌, ◌↔◌, Bool, false, nat_eq, IsTrue, List, map, length, Option, Some, None, slice_get, Contains}
use Rattle.std.specs.Global.{Vec}
use Rattle.lido_base.specs.Reach.{Reaches}
use Rattle.least_paths.specs.Graph.{is_in, has_edge}
use Rattle.lido_syntax.specs.declared.spec.Name.{Name}
use Rattle.lido_syntax.specs.declared.spec.SymbolItem.{SymbolItem}
use Rattle.lido_syntax.specs.declared.spec.Spec.{Spec}
use Rattle.lido_syntax.specs.Production.{name_of}
use Rattle.lido_syntax.specs.Sets.{Inherits}
use Rattle.lido_symbols.specs.Numbers.{place_in}
use Rattle.symbol_attributes.specs.declared.inheritance.Inheritance.{Inheritance}

-- the number of a symbol, and how many there are where it has none
abbrev pub number : List ℕ → ℕ → ℕ
number names s = place_in (nat_eq s) names

-- the numbers of the symbols that are named
abbrev pub numbers_of : List ℕ → List Name → List ℕ
numbers_of names = map (λ (x : Name). number names (name_of x))

-- all symbols and classes that the SYMBOL items are about or inherit have numbers
abbrev pub AreNumberedIn : List ℕ → List SymbolItem → Type 0
AreNumberedIn names items = (item : SymbolItem) (x : Name) → Contains items item → Contains item.names x ⊎ Contains item.inherits x → Contains names (name_of x)

-- the item is about a symbol with the one number, and names a class with the other behind INHERITS
abbrev pub IsItemEdge : List ℕ → SymbolItem → ℕ → ℕ → Type 0
IsItemEdge names item u v = Contains (numbers_of names item.names) u × Contains (numbers_of names item.inherits) v

abbrev pub IsDirectEdge : List ℕ → List SymbolItem → ℕ → ℕ → Type 0
IsDirectEdge names items u v = (item : SymbolItem) × Contains items item × IsItemEdge names item u v

-- the vertices from which edges lead to y, one at least
abbrev pub AreHeirs : List (List ℕ) → ℕ → List Bool → Type 0
AreHeirs graph y set = (x : ℕ) → IsTrue (is_in set x) ↔ Reaches (λ z. has_edge graph z y) (has_edge graph) x

-- the first rows are those of the first vertices
pub record AreRows (graph : List (List ℕ)) (n : ℕ) (rows : List (Vec Bool)) : Type 0 where
  pub count : length rows ≡ n
  pub each : (y : ℕ) (row : Vec Bool) → slice_get rows y ≡ Some row → AreHeirs graph y row.items

-- whether a row, if there is one, has the number
abbrev pub is_in_row : Option (Vec Bool) → ℕ → Bool
is_in_row None x = false
is_in_row (Some row) x = is_in row.items x

-- the rows say that symbol x inherits class y
abbrev pub is_heir : Inheritance → ℕ → ℕ → Bool
is_heir inheritance x y = is_in_row (slice_get inheritance.heirs.items y) x

-- Of any two symbols the rows say, by their numbers, whether the one inherits the other. Those without a number inherit nothing
-- and are inherited by nothing.
abbrev pub IsInheritance : Spec → List ℕ → Inheritance → Type 0
IsInheritance spec names inheritance = (s class : ℕ) → IsTrue (is_heir inheritance (number names s) (number names class)) ↔ Inherits spec s class
