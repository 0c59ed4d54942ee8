-- The sets of the INCLUDINGs, as the definition numbers them.
use Rattle.std.specs.Prelude.{◌≡◌, ℕ, ◌↔◌, IsTrue, List, map}
use Rattle.std.specs.List.{AllZip}
use Rattle.lido_base.specs.Environment.{Environment}
use Rattle.lido_base.specs.declared.value.ValueType.{ValueType}
use Rattle.lido_syntax.specs.declared.spec.Pair.{Pair}
use Rattle.lido_symbols.specs.FromText.{IsFromText}
use Rattle.least_paths.specs.Graph.{is_in}
use Rattle.rule_tables.specs.declared.forced.Forced.{Forced}
use Rattle.rule_tables.specs.ForcedOf.{AreForcedOf, AreNumbersOf}
use Rattle.rule_tables.specs.Needs.{Tables, uses_including}
use Rattle.rule_tables.specs.Flat.{IsListedType, IsEmptySet, IsFirstType}
use Rattle.need_graphs.specs.Clear.{AreClear}
use Rattle.remote_lists.specs.declared.symbols.Symbols.{Symbols}
use Rattle.remote_lists.specs.Listings.{is_listed_by}
use Rattle.remote_lists.specs.Sources.{source_by}
use Rattle.including_sets.specs.declared.sets.PairSet.{PairSet}
use Rattle.including_sets.specs.Named.{AreNamed}

-- The set of these pairs: for whom they list which attribute, its users, and its type. If the listed attributes have one type, it
-- is this.
pub record IsSetOf (forced : Forced) (symbols : Symbols) (T : Tables forced.tables.spec) (pairs : List Pair) (set : PairSet) : Type 0 where
  pub listed : set.listed ≡ map (is_listed_by symbols pairs) forced.tables.symbols
  pub sources : set.sources ≡ map (source_by symbols pairs) forced.tables.symbols
  pub users : (x : ℕ) → IsTrue (is_in set.users x) ↔ IsTrue (uses_including forced.tables.spec T pairs x)
  pub typed : AreNamed forced.tables.spec → (ty : ValueType) → IsListedType forced.tables.spec T pairs ty → IsListedType forced.tables.spec T pairs set.ty
  pub first_type : AreNamed forced.tables.spec → IsEmptySet forced.tables.spec T pairs → IsFirstType forced.tables.spec T pairs set.ty

-- The sets are those of the numbers, in order.
abbrev pub AreSetsOf : Forced → Symbols → List PairSet → Type 0
AreSetsOf forced symbols sets = (env : Environment) (T : Tables forced.tables.spec) → AreForcedOf env forced → AreNumbersOf env forced T
    → AreClear forced.tables.spec → IsFromText forced.tables.spec
    → AllZip (IsSetOf forced symbols T) T.includings sets
