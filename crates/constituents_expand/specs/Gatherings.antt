-- Which symbols have the attributes of the CONSTITUENTS.
use Rattle.std.specs.Prelude.{◌≡◌, ℕ, ◌↔◌, Bool, nat_eq, nat_lt, if◌then◌else◌, IsTrue, List, map, length, Option, Some, None, option_map, is_some, position, Contains}
use Rattle.std.specs.List.{AllZip, list_any}
use Rattle.lido_base.specs.Environment.{Environment}
use Rattle.lido_base.specs.declared.ids.AttrId.{AttrId}
use Rattle.lido_syntax.specs.declared.spec.Comp.{Comp}
use Rattle.lido_syntax.specs.declared.spec.Cons.{Cons}
use Rattle.lido_syntax.specs.declared.spec.Pair.{Pair}
use Rattle.lido_syntax.specs.declared.spec.With.{With}
use Rattle.lido_syntax.specs.Parts.{leaves_of}
use Rattle.lido_symbols.specs.Uses.{computations}
use Rattle.flat_grammar.specs.declared.flat.FlatAttr.{FlatAttr}
use Rattle.least_paths.specs.Graph.{IsGraph, has_edge, is_in}
use Rattle.rule_tables.specs.declared.table.Tables.{Tables}
use Rattle.rule_tables.specs.declared.table.SymbolRow.{SymbolRow}
use Rattle.rule_tables.specs.declared.forced.Forced.{Forced}
use Rattle.rule_tables.specs.PlainRules.{is_child, plain_rules}
use Rattle.rule_tables.specs.ForcedOf.{AreForcedOf, AreNumbersOf}
use Rattle.rule_tables.specs.Needs.{Tables as Numbered, Needs, is_constituents, shield_at, source_at}
use Rattle.rule_tables.specs.Slots.{has_con}
use Rattle.rule_tables.specs.TablesOf.{named_symbols}
use Rattle.constituents_expand.specs.declared.symbols.Symbols.{Symbols}
use Rattle.constituents_expand.specs.declared.uses.Use.{Use}
use Rattle.constituents_expand.specs.declared.weights.Gathering.{Gathering}
use Rattle.constituents_expand.specs.Listings.{listed_by, shielded_by}
use Rattle.constituents_expand.specs.Uses.{Standing, told}

-- the number of the attribute in the row, if u16 numbers it
abbrev pub id_in : ℕ → Option AttrId
id_in i = if nat_lt i 65536 then Some (record { 0 = i }) else None

abbrev pub id_at : Option ℕ → Option AttrId
id_at None = None
id_at (Some i) = id_in i

abbrev pub place_of : SymbolRow → ℕ → Option ℕ
place_of row a = position (λ (x : FlatAttr). nat_eq x.name.0 a) row.attrs

abbrev pub id_of : SymbolRow → ℕ → Option AttrId
id_of row a = id_at (place_of row a)

-- the attribute that the pairs list for the symbol of the row
abbrev pub source_by : Symbols → List Pair → SymbolRow → Option AttrId
source_by symbols pairs row = elim (listed_by symbols pairs row) [ None ↦ None | Some a ↦ id_of row a.0 ]

abbrev pub is_source : Option AttrId → Bool
is_source o = is_some o

-- the graph of the plain rules
pub record IsChildGraph (t : Tables) (graph : List (List ℕ)) : Type 0 where
  pub count : length graph ≡ length t.symbols
  pub is_graph : IsGraph graph
  pub edges : (x y : ℕ) → IsTrue (has_edge graph x y) ↔ IsTrue (is_child (plain_rules t.spec (named_symbols t)) x y)

-- The set has those that have the attribute of a CONSTITUENTS which stands in the computations of that number alone, with these
-- sources and shields.
abbrev pub AreBearers : Forced → ℕ → List (Option AttrId) → List Bool → List Bool → Type 0
AreBearers forced comp sources shields set = (env : Environment) (T : Numbered forced.tables.spec) (needs : Needs forced.tables.spec T) (k : Cons) → AreForcedOf env forced → AreNumbersOf env forced T
    → ((c : Comp) → Contains (computations forced.tables.spec) c → IsTrue (list_any (is_constituents forced.tables.spec T k) (leaves_of c)) ↔ (comp ≡ c.number))
    → ((x : ℕ) → is_in (map is_source sources) x ≡ source_at forced.tables.spec T k x) → ((x : ℕ) → is_in shields x ≡ shield_at forced.tables.spec T k x)
    → (x : ℕ) → is_in set x ≡ has_con forced.tables.spec T needs k x

-- a CONSTITUENTS with its sources, its shields and the symbols that have its attribute
pub record IsGatheringOf (forced : Forced) (symbols : Symbols) (u : Standing) (g : Gathering) : Type 0 where
  pub number : g.number ≡ u.constituents.number
  pub with_type : g.with ≡ option_map (λ (w : With). w.ty) u.constituents.with
  pub sources : g.sources ≡ map (source_by symbols u.constituents.pairs) forced.tables.symbols
  pub shields : g.shields ≡ map (shielded_by symbols u.constituents.shield) forced.tables.symbols
  pub bearers : AreBearers forced u.comp g.sources g.shields g.bearers

abbrev pub AreGatherings : Forced → Symbols → List Use → List Gathering → Type 0
AreGatherings forced symbols uses gs = AllZip (λ (u : Use) (g : Gathering). IsGatheringOf forced symbols (told u) g) uses gs
