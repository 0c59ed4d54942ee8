-- How a set is made of its first INCLUDING.
use Rattle.std.specs.Prelude.{◌≡◌, ℕ, ◌↔◌, Bool, IsTrue, List, map, filter, length, Contains}
use Rattle.lido_base.specs.Environment.{Environment}
use Rattle.lido_syntax.specs.declared.spec.Comp.{Comp}
use Rattle.lido_symbols.specs.Uses.{computations}
use Rattle.least_paths.specs.Graph.{is_in}
use Rattle.rule_tables.specs.declared.table.Tables.{Tables as Rows}
use Rattle.rule_tables.specs.declared.forced.Forced.{Forced}
use Rattle.rule_tables.specs.ForcedOf.{AreForcedOf, AreNumbersOf}
use Rattle.rule_tables.specs.Needs.{Tables, in_force_at}
use Rattle.remote_lists.specs.declared.symbols.Symbols.{Symbols}
use Rattle.remote_lists.specs.Listings.{is_listed_by}
use Rattle.remote_lists.specs.Sources.{source_by}
use Rattle.including_sets.specs.declared.listings.Listing.{Listing}
use Rattle.including_sets.specs.declared.sets.PairSet.{PairSet}
use Rattle.including_sets.specs.Listings.{is_same_listing, computation_of}
use Rattle.including_sets.specs.Types.{IsSetType}

-- it has a place for each symbol and cell
pub record IsCounted (t : Rows) (set : PairSet) : Type 0 where
  pub listed : length set.listed ≡ length t.symbols
  pub sources : length set.sources ≡ length t.symbols
  pub users : length set.users ≡ length t.symbols

-- the set has the symbols at which computations with these numbers are in force
abbrev pub AreContexts : Forced → List ℕ → List Bool → Type 0
AreContexts forced numbers set = (env : Environment) (T : Tables forced.tables.spec) → AreForcedOf env forced → AreNumbersOf env forced T → (test : Comp → Bool)
    → ((k : Comp) → Contains (computations forced.tables.spec) k → IsTrue (test k) ↔ Contains numbers k.number)
    → (x : ℕ) → IsTrue (is_in set x) ↔ IsTrue (in_force_at forced.tables.spec T (λ fs f. test f.comp) x)

-- the numbers of the computations in which INCLUDINGs stand that list the same
abbrev pub numbers_like : List Listing → Listing → List ℕ
numbers_like ls l = map computation_of (filter (λ other. is_same_listing l other) ls)

pub record IsMade (forced : Forced) (symbols : Symbols) (ls : List Listing) (l : Listing) (set : PairSet) : Type 0 where
  pub counted : IsCounted forced.tables set
  pub listed : set.listed ≡ map (is_listed_by symbols l.one.pairs.now) forced.tables.symbols
  pub sources : set.sources ≡ map (source_by symbols l.one.pairs.now) forced.tables.symbols
  pub ty : IsSetType symbols l.one.pairs.now forced.tables.symbols set.ty
  pub users : AreContexts forced (numbers_like ls l) set.users
