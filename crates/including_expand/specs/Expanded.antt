-- What INCLUDINGs add, as the definition says.
use Rattle.std.specs.Prelude.{List}
use Rattle.lido_base.specs.Environment.{Environment}
use Rattle.lido_syntax.specs.declared.fault.SpecFault.{SpecFault}
use Rattle.lido_symbols.specs.FromText.{IsFromText}
use Rattle.rule_tables.specs.declared.forced.Forced.{Forced}
use Rattle.rule_tables.specs.declared.extra.Extra.{Extra}
use Rattle.rule_tables.specs.ForcedOf.{AreForcedOf, AreNumbersOf}
use Rattle.rule_tables.specs.Needs.{Tables, Needs}
use Rattle.rule_tables.specs.Shares.{IncludingShare}
use Rattle.rule_tables.specs.ExtraOf.{IsExtra, IsOfIncluding}
use Rattle.rule_tables.specs.ExpansionFaults.{IsNoIncluding}
use Rattle.need_graphs.specs.Clear.{AreClear}
use Rattle.remote_lists.specs.declared.symbols.Symbols.{Symbols}
use Rattle.remote_lists.specs.Listings.{AreSymbols}
use Rattle.remote_lists.specs.Sources.{AreNumberable}
use Rattle.including_sets.specs.declared.sets.PairSet.{PairSet}
use Rattle.including_sets.specs.Sets.{AreSetsOf}
use Rattle.including_sets.specs.Named.{AreNamed, AreListed}
use Rattle.including_expand.specs.declared.expand.Expansion.{Expansion}
use Rattle.including_expand.specs.declared.expand.Expansion.TheVariants as expansion

-- these are the sets of the text, in the order of their numbers
abbrev pub AreSetsIn : Forced → List PairSet → Type 0
AreSetsIn forced sets = (symbols : Symbols) × AreSymbols forced.tables.spec symbols × AreSetsOf forced symbols sets

-- These are exactly the attributes of INCLUDINGs with their kinds and types, and in each plain rule its share of computations.
abbrev pub IsExtraOf : Forced → Extra → Type 0
IsExtraOf forced extra = (env : Environment) (T : Tables forced.tables.spec) (needs : Needs forced.tables.spec T) → AreForcedOf env forced → AreNumbersOf env forced T → AreClear forced.tables.spec
    → IsFromText forced.tables.spec → AreNamed forced.tables.spec → AreNumberable forced.tables → AreListed forced.tables.spec T
    → IsExtra forced.tables T needs IsOfIncluding (IncludingShare forced.tables.spec T needs) extra

-- the root needs no INCLUDING
abbrev pub HasNoFault : Forced → Type 0
HasNoFault forced = (env : Environment) (T : Tables forced.tables.spec) (needs : Needs forced.tables.spec T) → AreForcedOf env forced → AreNumbersOf env forced T → AreClear forced.tables.spec
    → IsFromText forced.tables.spec → (fault : SpecFault) → ¬ IsNoIncluding forced.tables.spec env T needs fault

-- the fault of the first set that the root needs
abbrev pub IsFaultIn : Forced → SpecFault → Type 0
IsFaultIn forced fault = (env : Environment) (T : Tables forced.tables.spec) (needs : Needs forced.tables.spec T) → AreForcedOf env forced → AreNumbersOf env forced T → AreClear forced.tables.spec
    → IsFromText forced.tables.spec → IsNoIncluding forced.tables.spec env T needs fault

abbrev pub IsExpansionOf : Forced → Expansion → Type 0
IsExpansionOf forced (expansion.Added extra) = IsExtraOf forced extra × HasNoFault forced
IsExpansionOf forced (expansion.Fault fault) = IsFaultIn forced fault
