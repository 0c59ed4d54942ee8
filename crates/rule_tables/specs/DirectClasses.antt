-- The classes that the items of a symbol name behind INHERITS.
use Rattle.std.specs.Prelude.{◌≡◌, ℕ, ◌<◌, IsTrue, List, map, Some, slice_get, AllPairs, Contains}
use Rattle.lido_base.specs.declared.ids.SymId.{SymId}
use Rattle.lido_base.specs.Tree.{contains}
use Rattle.lido_syntax.specs.declared.spec.SymbolItem.{SymbolItem}
use Rattle.lido_syntax.specs.Production.{name_of}
use Rattle.lido_syntax.specs.Sets.{names_of}
use Rattle.lido_symbols.specs.Numbers.{different}
use Rattle.kind_clashes.specs.declared.names.Names.{Names}
use Rattle.kind_clashes.specs.Names.{has}

-- the different names of the item behind INHERITS
abbrev pub inherited_by : SymbolItem → List ℕ
inherited_by item = different (map name_of item.inherits)

-- the item is about s, and names the class
abbrev pub IsHandedBy : ℕ → SymbolItem → ℕ → Type 0
IsHandedBy s item class = IsTrue (contains s (names_of item)) × Contains (map name_of item.inherits) class

-- The numbers are those of the set's names among the first i symbols, ascending.
pub record AreNumbersOf (symbols : List ℕ) (classes : Names) (i : ℕ) (ids : List SymId) : Type 0 where
  pub each : (id : SymId) → Contains ids id → (id.0 < i) × ((c : ℕ) × (slice_get symbols id.0 ≡ Some c) × IsTrue (has classes c))
  pub all : (k c : ℕ) → k < i → slice_get symbols k ≡ Some c → IsTrue (has classes c) → Contains ids (record { 0 = k })
  pub ascending : AllPairs (λ (x y : SymId). x.0 < y.0) ids
