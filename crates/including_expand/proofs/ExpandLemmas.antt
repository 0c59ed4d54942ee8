-- What INCLUDINGs add is what the definition says.
use Rattle.std.specs.Prelude.{Contains, slice_get}
use Rattle.std.specs.List.{AllZip}
use Rattle.std.proofs.Common.{◌≡◌, ◌∙◌, ℕ, Bool, List, Some, sym}
use Rattle.lido_base.specs.Environment.{Environment}
use Rattle.lido_syntax.specs.declared.fault.SpecFault.{SpecFault}
use Rattle.lido_symbols.specs.FromText.{IsFromText}
use Rattle.rule_tables.specs.declared.table.Tables.{Tables as Rows}
use Rattle.rule_tables.specs.declared.forced.Forced.{Forced}
use Rattle.rule_tables.specs.ForcedOf.{AreForcedOf, AreNumbersOf}
use Rattle.rule_tables.specs.Needs.{Tables as Numbered, Needs}
use Rattle.rule_tables.specs.Shares.{IncludingShare}
use Rattle.rule_tables.specs.ExtraOf.{IsExtra, IsOfIncluding}
use Rattle.need_graphs.specs.Clear.{AreClear}
use Rattle.remote_lists.specs.declared.symbols.Symbols.{Symbols}
use Rattle.remote_lists.specs.Listings.{AreSymbols}
use Rattle.remote_lists.specs.Reach.{IsChildGraph}
use Rattle.remote_lists.specs.Sources.{AreNumberable}
use Rattle.including_sets.specs.declared.sets.PairSet.{PairSet}
use Rattle.including_sets.specs.Named.{AreNamed, AreListed}
use Rattle.including_sets.specs.Sets.{AreSetsOf}
use Rattle.including_sets.specs.Made.{IsCounted}
use Rattle.including_expand.specs.Needed.{IsOver, IsNeedOf, HasNoPath, IsFirstFault}
use Rattle.including_expand.specs.Extras.{all_attrs, all_comps}
use Rattle.including_expand.specs.Expanded.{AreSetsIn, HasNoFault, IsFaultIn}
use Rattle.including_expand.proofs.FaultLemmas.{first-fault, no-fault}
use Rattle.including_expand.proofs.OrderLemmas.{attrs-ordered, comps-ordered}
use Rattle.including_expand.proofs.ExtraLemmas.{attrs-each, attrs-all, comps-computed, comps-compute}

-- sets that tell of all symbols tell of all vertices of their graph
pub over-graph : (t : Rows) (graph : List (List ℕ)) → IsChildGraph t graph → (sets : List PairSet) → ((set : PairSet) → Contains sets set → IsCounted t set) → (set : PairSet) → Contains sets set → IsOver graph set
over-graph t graph its sets counted set m = let c = counted set m in record { users = c.users ∙ sym its.count; listed = c.listed ∙ sym its.count }

module _ (forced : Forced) (symbols : Symbols) (inherit : AreSymbols forced.tables.spec symbols) (graph : List (List ℕ)) (its : IsChildGraph forced.tables graph) (sets : List PairSet) (of : AreSetsOf forced symbols sets) where
  pub fault-in : ((set : PairSet) → Contains sets set → IsOver graph set) → (f : SpecFault) → IsFirstFault forced.tables graph sets f → IsFaultIn forced f
  fault-in over f first env T needs are numbers clear from = first-fault env forced are T numbers needs clear symbols inherit graph its sets (of env T are numbers clear from) over f first

  pub without-fault : ((i : ℕ) (set : PairSet) → slice_get sets i ≡ Some set → HasNoPath graph forced.tables.root.0 set) → HasNoFault forced
  without-fault none env T needs are numbers clear from = no-fault env forced are T numbers needs clear symbols inherit graph its sets (of env T are numbers clear from) none

pub extra-is : (forced : Forced) (graph : List (List ℕ)) → IsChildGraph forced.tables graph → (sets : List PairSet) → AreSetsIn forced sets → ((set : PairSet) → Contains sets set → IsOver graph set)
    → (rows : List (List Bool)) → AllZip (IsNeedOf graph) sets rows → (env : Environment) (T : Numbered forced.tables.spec) (needs : Needs forced.tables.spec T) → AreForcedOf env forced → AreNumbersOf env forced T
    → AreClear forced.tables.spec → IsFromText forced.tables.spec → AreNamed forced.tables.spec → AreNumberable forced.tables → AreListed forced.tables.spec T
    → IsExtra forced.tables T needs IsOfIncluding (IncludingShare forced.tables.spec T needs) (record { attrs = all_attrs rows sets forced.tables.symbols; comps = all_comps rows sets forced.tables.plain })
extra-is forced graph its sets in_text over rows needed env T needs are numbers clear from sound few listed_types =
    let (symbols, inherit, of) = in_text in
    let are_sets = of env T are numbers clear from in
    record {
      each = attrs-each env forced are T numbers needs clear from sound few listed_types symbols inherit graph its sets are_sets over rows needed;
      all = attrs-all env forced are T numbers needs clear from sound few listed_types symbols inherit graph its sets are_sets over rows needed;
      in_order = attrs-ordered rows sets forced.tables.symbols;
      computed = comps-computed env forced are T numbers needs clear from sound few listed_types symbols inherit graph its sets are_sets over rows needed;
      computes = λ i k p fs s e. comps-compute env forced are T numbers needs clear from sound few listed_types symbols inherit graph its sets are_sets over rows needed i k p fs s e;
      comps_in_order = comps-ordered rows sets forced.tables.plain;
    }
