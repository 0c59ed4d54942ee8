-- What chains add, as the definition says.
use Rattle.lido_base.specs.Environment.{Environment}
use Rattle.rule_tables.specs.declared.forced.Forced.{Forced}
use Rattle.rule_tables.specs.declared.extra.Extra.{Extra}
use Rattle.rule_tables.specs.ForcedOf.{AreForcedOf, AreNumbersOf}
use Rattle.rule_tables.specs.Needs.{Tables, Needs}
use Rattle.rule_tables.specs.Shares.{ChainShare}
use Rattle.rule_tables.specs.ExtraOf.{IsExtra, IsOfChains}
use Rattle.rule_tables.specs.ExpansionFaults.{IsChainNoStart}
use Rattle.lido_syntax.specs.declared.fault.SpecFault.{SpecFault}
use Rattle.chain_expand.specs.declared.expand.Expansion.{Expansion}
use Rattle.chain_expand.specs.declared.expand.Expansion.TheVariants as expansion
use Rattle.need_graphs.specs.Clear.{AreClear}

-- These are exactly the attributes of chains with their kinds and types, and in each plain rule its share of computations.
abbrev pub IsExtraOf : Forced → Extra → Type 0
IsExtraOf forced extra = (env : Environment) (T : Tables forced.tables.spec) (needs : Needs forced.tables.spec T) → AreForcedOf env forced → AreNumbersOf env forced T → AreClear forced.tables.spec
    → IsExtra forced.tables T needs IsOfChains (ChainShare forced.tables.spec T needs) extra

-- the root needs no chain
abbrev pub HasNoFault : Forced → Type 0
HasNoFault forced = (env : Environment) (T : Tables forced.tables.spec) (needs : Needs forced.tables.spec T) → AreForcedOf env forced → AreNumbersOf env forced T → AreClear forced.tables.spec
    → (fault : SpecFault) → ¬ IsChainNoStart forced.tables.spec env T needs fault

-- the fault of the first chain that the root needs
abbrev pub IsFaultIn : Forced → SpecFault → Type 0
IsFaultIn forced fault = (env : Environment) (T : Tables forced.tables.spec) (needs : Needs forced.tables.spec T) → AreForcedOf env forced → AreNumbersOf env forced T → AreClear forced.tables.spec
    → IsChainNoStart forced.tables.spec env T needs fault

abbrev pub IsExpansionOf : Forced → Expansion → Type 0
IsExpansionOf forced (expansion.Added extra) = IsExtraOf forced extra × HasNoFault forced
IsExpansionOf forced (expansion.Fault fault) = IsFaultIn forced fault
