-- What CONSTITUENTS add is what the definition says, and the least that lacks a WITH is its fault.
use Rattle.std.specs.Prelude.{AllPairs, map}
use Rattle.std.proofs.Common.{◌≡◌, ◌∙◌, ℕ, ◌<◌, List, length, Option, Some, None, get_or, refl, sym, ap, subst, arith}
use Rattle.std.proofs.lemmas.Option.{same_Some, slice_get-get_or, slice_get_within}
use Rattle.std.proofs.lemmas.List.{get_or-map, length-map}
use Rattle.lido_base.specs.Environment.{Environment}
use Rattle.lido_base.proofs.Lists.{contains-map, map-contains, place-below}
use Rattle.lido_syntax.specs.declared.fault.SpecFault.TheVariants as fault
use Rattle.lido_symbols.specs.FromText.{IsFromText}
use Rattle.kind_clashes.specs.Least.{IsFirst, Among}
use Rattle.rule_tables.specs.declared.forced.Forced.{Forced}
use Rattle.rule_tables.specs.ForcedOf.{AreForcedOf, AreNumbersOf}
use Rattle.rule_tables.specs.Needs.{Tables as Numbered, Needs}
use Rattle.rule_tables.specs.Shares.{ConstituentsShare}
use Rattle.rule_tables.specs.ExtraOf.{IsExtra, IsOfConstituents}
use Rattle.rule_tables.specs.ExpansionFaults.{IsWithoutWith}
use Rattle.need_graphs.specs.Clear.{AreClear}
use Rattle.need_graphs.proofs.EdgeLemmas.{zip-left}
use Rattle.constituents_expand.specs.declared.symbols.Symbols.{Symbols}
use Rattle.constituents_expand.specs.declared.uses.Use.{Use}
use Rattle.constituents_expand.specs.declared.weights.Gathering.{Gathering}
use Rattle.constituents_expand.specs.Listings.{AreSymbols}
use Rattle.constituents_expand.specs.Uses.{Standing, told, AreUses}
use Rattle.constituents_expand.specs.Faults.{IsLackAt}
use Rattle.constituents_expand.specs.Named.{AreNamed}
use Rattle.constituents_expand.specs.Extras.{all_attrs, all_comps}
use Rattle.constituents_expand.specs.Gatherings.{IsGatheringOf, AreGatherings}
use Rattle.constituents_expand.specs.Expanded.{AreNumberable, HasNoFault, IsFaultIn}
use Rattle.constituents_expand.proofs.FaultLemmas.{lack-to, lack-from}
use Rattle.constituents_expand.proofs.OrderLemmas.{IsFirst as IsBefore, all-pairs, attrs-ordered, comps-ordered}
use Rattle.constituents_expand.proofs.ExtraLemmas.{attrs-each, attrs-all, comps-computed, comps-compute}

module _ (forced : Forced) (symbols : Symbols) (inherit : AreSymbols forced.tables.spec symbols) (uses : List Use) (are_uses : AreUses forced.tables.spec (map told uses)) where
  abbrev IsLack : Use → ℕ → Type 0
  IsLack u at = IsLackAt symbols forced.tables.symbols (told u) at

  module _ (env : Environment) (T : Numbered forced.tables.spec) (are : AreForcedOf env forced) (clear : AreClear forced.tables.spec) (from : IsFromText forced.tables.spec) (sound : AreNamed forced.tables.spec) where
    lack-with : (at : ℕ) → Among IsLack uses at → IsWithoutWith forced.tables.spec env T at
    lack-with at h = lack-to env forced.tables are.tables clear from sound T symbols inherit (told h.item) at ((are_uses.all (told h.item)).0 (map-contains told uses h.item h.among)) h.is

    with-lack : (at : ℕ) → IsWithoutWith forced.tables.spec env T at → Among IsLack uses at
    with-lack at h =
        let (u, m, is) = lack-from env forced.tables are.tables clear from sound T symbols inherit at h in
        let (v, among, e) = contains-map told uses u ((are_uses.all u).1 m) in
        record { item = v; among = among; is = subst (λ (w : Standing). IsLackAt symbols forced.tables.symbols w at) (sym e) is }

  pub fault-in : (o : Option ℕ) → IsFirst (Among IsLack uses) o → (at : ℕ) → o ≡ Some at → IsFaultIn forced (fault.NoWith at)
  fault-in o first at e env T are numbers clear from sound =
      let least = first.some at e in
      (at, record { there = lack-with env T are clear from sound at least.there; least = λ other h. least.least other (with-lack env T are clear from sound other h) }, refl)

  pub no-fault : (o : Option ℕ) → IsFirst (Among IsLack uses) o → o ≡ None → HasNoFault forced
  no-fault o first e env T are numbers clear from sound f h = first.none e h.0 (with-lack env T are clear from sound h.0 h.1.there)

  module _ (gs : List Gathering) (all : AreGatherings forced symbols uses gs) where
    sorted : IsFromText forced.tables.spec → AllPairs IsBefore gs
    sorted from i j d less below =
        let (h, at_h) = place-below gs j below in
        let early : i < length gs = omega (arith, less, below) in
        let (g, at_g) = place-below gs i early in
        let (v, of_v, is_v) = zip-left (λ (u : Use) (g : Gathering). IsGatheringOf forced symbols (told u) g) uses gs j h all at_h in
        let (u, of_u, is_u) = zip-left (λ (u : Use) (g : Gathering). IsGatheringOf forced symbols (told u) g) uses gs i g all at_g in
        let within = slice_get_within uses j v of_v in
        let earlier = slice_get_within uses i u of_u in
        let order = are_uses.in_order from i j (told u) less (omega (arith, within, length-map uses told)) in
        let one : get_or (map told uses) i (told u) ≡ told u = get_or-map told uses i u (told u) earlier ∙ ap told (same_Some _ _ (sym (slice_get-get_or uses i u earlier) ∙ of_u)) in
        let other : get_or (map told uses) j (told u) ≡ told v = get_or-map told uses j u (told u) within ∙ ap told (same_Some _ _ (sym (slice_get-get_or uses j u within) ∙ of_v)) in
        let left : get_or gs i d ≡ g = same_Some _ _ (sym (slice_get-get_or gs i d early) ∙ at_g) in
        let right : get_or gs j d ≡ h = same_Some _ _ (sym (slice_get-get_or gs j d below) ∙ at_h) in
        let a = ap (λ (w : Standing). w.constituents.number) one in
        let b = ap (λ (w : Standing). w.constituents.number) other in
        let p = ap (λ (x : Gathering). x.number) left in
        let q = ap (λ (x : Gathering). x.number) right in
        let m = is_u.number in
        let n = is_v.number in
        omega (arith, order, a, b, p, q, m, n)

    pub extra-is : (env : Environment) (T : Numbered forced.tables.spec) (needs : Needs forced.tables.spec T) → AreForcedOf env forced → AreNumbersOf env forced T → AreClear forced.tables.spec → IsFromText forced.tables.spec
        → AreNamed forced.tables.spec → AreNumberable forced.tables
        → IsExtra forced.tables T needs IsOfConstituents (ConstituentsShare forced.tables.spec T needs) (record { attrs = all_attrs gs forced.tables.symbols; comps = all_comps gs forced.tables.spec.rules forced.tables.plain })
    extra-is env T needs are numbers clear from sound few =
        let order = all-pairs IsBefore gs (sorted from) in
        record {
          each = attrs-each env forced are T numbers clear from sound few symbols inherit needs uses are_uses gs all;
          all = attrs-all env forced are T numbers clear from sound few symbols inherit needs uses are_uses gs all;
          in_order = attrs-ordered gs order forced.tables.symbols;
          computed = comps-computed env forced are T numbers clear from sound few symbols inherit needs uses are_uses gs all;
          computes = λ i k p fs s e. comps-compute env forced are T numbers clear from sound few symbols inherit needs uses are_uses gs all i k p fs s e;
          comps_in_order = comps-ordered gs order forced.tables.spec.rules forced.tables.plain;
        }
