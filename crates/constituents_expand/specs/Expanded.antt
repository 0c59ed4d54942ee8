-- What CONSTITUENTS add, as the definition says.
use Rattle.std.specs.Prelude.{◌≤◌, length, Contains}
use Rattle.lido_base.specs.Environment.{Environment}
use Rattle.lido_syntax.specs.declared.fault.SpecFault.{SpecFault}
use Rattle.lido_symbols.specs.FromText.{IsFromText}
use Rattle.rule_tables.specs.declared.table.Tables.{Tables as Rows}
use Rattle.rule_tables.specs.declared.table.SymbolRow.{SymbolRow}
use Rattle.rule_tables.specs.declared.forced.Forced.{Forced}
use Rattle.rule_tables.specs.declared.extra.Extra.{Extra}
use Rattle.rule_tables.specs.ForcedOf.{AreForcedOf, AreNumbersOf}
use Rattle.rule_tables.specs.Needs.{Tables, Needs}
use Rattle.rule_tables.specs.Shares.{ConstituentsShare}
use Rattle.rule_tables.specs.ExtraOf.{IsExtra, IsOfConstituents}
use Rattle.rule_tables.specs.ExpansionFaults.{IsNoWith}
use Rattle.need_graphs.specs.Clear.{AreClear}
use Rattle.constituents_expand.specs.Named.{AreNamed}
use Rattle.constituents_expand.specs.declared.expand.Expansion.{Expansion}
use Rattle.constituents_expand.specs.declared.expand.Expansion.TheVariants as expansion

-- u16 numbers the attributes of each symbol
abbrev pub AreNumberable : Rows → Type 0
AreNumberable t = (row : SymbolRow) → Contains t.symbols row → length row.attrs ≤ 65536

-- These are exactly the attributes of CONSTITUENTS with their kinds and types, and in each plain rule its share of computations.
abbrev pub IsExtraOf : Forced → Extra → Type 0
IsExtraOf forced extra = (env : Environment) (T : Tables forced.tables.spec) (needs : Needs forced.tables.spec T) → AreForcedOf env forced → AreNumbersOf env forced T → AreClear forced.tables.spec
    → IsFromText forced.tables.spec → AreNamed forced.tables.spec → AreNumberable forced.tables → IsExtra forced.tables T needs IsOfConstituents (ConstituentsShare forced.tables.spec T needs) extra

-- no CONSTITUENTS lacks a WITH
abbrev pub HasNoFault : Forced → Type 0
HasNoFault forced = (env : Environment) (T : Tables forced.tables.spec) → AreForcedOf env forced → AreNumbersOf env forced T → AreClear forced.tables.spec
    → IsFromText forced.tables.spec → AreNamed forced.tables.spec → (fault : SpecFault) → ¬ IsNoWith forced.tables.spec env T fault

-- the fault of the first that does
abbrev pub IsFaultIn : Forced → SpecFault → Type 0
IsFaultIn forced fault = (env : Environment) (T : Tables forced.tables.spec) → AreForcedOf env forced → AreNumbersOf env forced T → AreClear forced.tables.spec
    → IsFromText forced.tables.spec → AreNamed forced.tables.spec → IsNoWith forced.tables.spec env T fault

abbrev pub IsExpansionOf : Forced → Expansion → Type 0
IsExpansionOf forced (expansion.Added extra) = IsExtraOf forced extra × HasNoFault forced
IsExpansionOf forced (expansion.Fault fault) = IsFaultIn forced fault
