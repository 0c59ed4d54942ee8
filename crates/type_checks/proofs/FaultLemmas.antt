-- The first entry that has a fault has the first fault of types.
use Rattle.std.specs.Prelude.{Contains, slice_get}
use Rattle.std.proofs.Common.{◌≡◌, ℕ, zero, suc, ◌<◌, ◌≤◌, ◌⊎◌, ◌↔◌, inl, inr, List, length, Some, refl, ap, sym, subst, ◌∙◌, arith}
use Rattle.std.proofs.lemmas.Bool.{cases_lt}
use Rattle.std.proofs.lemmas.Option.{same_Some, slice_get_within}
use Rattle.lido_base.specs.Environment.{Environment}
use Rattle.lido_base.specs.Faults.{HasNone, First}
use Rattle.lido_base.proofs.Lists.{contains-place, place-contains, AllZip-place}
use Rattle.lido_syntax.specs.declared.spec.RuleItem.{RuleItem}
use Rattle.lido_syntax.specs.declared.fault.SpecFault.{SpecFault}
use Rattle.lido_syntax.specs.Computation.{InForce}
use Rattle.lido_symbols.specs.FromText.{IsFromText}
use Rattle.kind_clashes.specs.KindClash.{IsKindClash}
use Rattle.rule_tables.specs.declared.forced.Forced.{Forced}
use Rattle.rule_tables.specs.declared.forced.Force.{Force as Entry}
use Rattle.rule_tables.specs.PlainRules.{PlainRule, Role, Whole, Listing, Link, End, plain_rules}
use Rattle.rule_tables.specs.Forced.{Force, IsForced, IsWrittenAt}
use Rattle.rule_tables.specs.Needs.{Tables, rules}
use Rattle.rule_tables.specs.ForcedOf.{AreEntriesOf, AreForcedOf, AreNumbersOf, IsEntryOf, IsEarlier}
use Rattle.rule_tables.specs.ExtraOf.{IsBeforeIn}
use Rattle.rule_tables.specs.TablesOf.{named_symbols}
use Rattle.rule_tables.proofs.SlotLemmas.{zip-at}
use Rattle.leaf_types.specs.Single.{AreSingleTypes}
use Rattle.expr_types.specs.TypeFaults.{IsForcedAt, HasFault, force_place, type_faults}
use Rattle.expr_types.proofs.NoComputationFaultLemmas.{no-computation-fault}
use Rattle.flat_laws.proofs.Lists.{pair-at, zip-left, zip-right}
use Rattle.flat_laws.proofs.RuleLemmas.{at-zip}
use Rattle.type_checks.specs.Entries.{IsEntryAt, IsTypedEntry}
use Rattle.type_checks.specs.Whole.{AreTypedBefore, IsFirstOf}
use Rattle.type_checks.proofs.EntryLemmas.{number-here, symbol-same}
use Rattle.type_checks.proofs.OrderLemmas.{not-both, entry-order, entry-same}

-- an occurrence has one written symbol
written-one : (r : RuleItem) (role : Role) (k s q : ℕ) → IsWrittenAt r role k s → IsWrittenAt r role k q → s ≡ q
written-one r Whole zero s q h k = h ∙ sym k
written-one r Whole (suc i) s q h k = same_Some s q (sym h ∙ k)
written-one r Listing zero s q h k = h ∙ sym k
written-one r Listing (suc i) s q h k = absurd h
written-one r (Link x) zero s q h k = absurd h
written-one r (Link x) (suc zero) s q h k = h ∙ sym k
written-one r (Link x) (suc (suc i)) s q h k = absurd h
written-one r End i s q h k = absurd h

-- each entry stands for a computation in force
pub entry-at : (forced : Forced) (env : Environment) → AreForcedOf env forced → (i k : ℕ) (entries : List Entry) (e : Entry) → slice_get forced.comps i ≡ Some entries → slice_get entries k ≡ Some e
    → (f : Force) × (r : RuleItem) × (s : ℕ) × IsEntryAt forced.tables i e f r s
entry-at forced env is i k entries e there e_at =
    let (p, number, each) = zip-left (AreEntriesOf forced.tables) (plain_rules forced.tables.spec (named_symbols forced.tables)) forced.comps i entries is.entries there in
    let (f, (r, s, written, place, in_force), its) = each.each e (place-contains entries k e e_at) in
    (f, r, s, record { rule = p; number = number; written = written; at = place; in_force = in_force; entry = its })

module _ (forced : Forced) (env other texts : Environment) (is : AreForcedOf env forced) (text : IsFromText forced.tables.spec) (none : (at : ℕ) → IsKindClash forced.tables.spec texts at → ⊥)
    (single : AreSingleTypes forced.tables.spec) (T : Tables forced.tables.spec) (are : AreNumbersOf other forced T) where
  of-named : (i : ℕ) (p : PlainRule) → slice_get (rules forced.tables.spec T) i ≡ Some p → slice_get (plain_rules forced.tables.spec (named_symbols forced.tables)) i ≡ Some p
  of-named i p e = ap (λ (names : List ℕ). slice_get (plain_rules forced.tables.spec names) i) (sym are.symbols) ∙ e

  -- each computation in force has its entry
  pub entry-of : (i : ℕ) (f : Force) (r : RuleItem) (s : ℕ) → IsForcedAt forced.tables.spec T texts i f r s
      → (entries : List Entry) × (k : ℕ) × (e : Entry) × (slice_get forced.comps i ≡ Some entries) × (slice_get entries k ≡ Some e) × IsEntryAt forced.tables i e f r s
  entry-of i f r s at =
      let (rule_at, forces_at) = zip-at (rules forced.tables.spec T) T.forced i at.rule at.forces at.number in
      let (q, w, written, place, in_force) = (AllZip-place (λ p fs. (f : Force) → Contains fs f ↔ IsForced forced.tables.spec p f) (rules forced.tables.spec T) T.forced i at.rule at.forces are.numbers.forced rule_at forces_at f).0 at.there in
      let same : q ≡ r = same_Some q r (sym written ∙ at.written) in
      let one : w ≡ s = written-one r at.rule.role f.occ w s (subst (λ z. IsWrittenAt z at.rule.role f.occ w) same place) at.at in
      let number = of-named i at.rule rule_at in
      let (entries, there, all) = zip-right (AreEntriesOf forced.tables) (plain_rules forced.tables.spec (named_symbols forced.tables)) forced.comps i at.rule is.entries number in
      let (e, among, its) = all.all f (q, w, written, place, in_force) in
      let (k, e_at) = contains-place entries e among in (
        entries,
        k,
        e,
        there,
        e_at,
        record {
          rule = at.rule;
          number = number;
          written = at.written;
          at = at.at;
          in_force = subst (λ z. InForce forced.tables.spec r f.occ z f.goal f.holder f.comp) one (subst (λ z. InForce forced.tables.spec z f.occ w f.goal f.holder f.comp) same in_force);
          entry = its;
        },
      )

  -- each entry has its computation in force
  pub force-of : (i k : ℕ) (entries : List Entry) (e : Entry) → slice_get forced.comps i ≡ Some entries → slice_get entries k ≡ Some e
      → (f : Force) × (r : RuleItem) × (s : ℕ) × IsEntryAt forced.tables i e f r s × IsForcedAt forced.tables.spec T texts i f r s
  force-of i k entries e there e_at =
      let (p, number, each) = zip-left (AreEntriesOf forced.tables) (plain_rules forced.tables.spec (named_symbols forced.tables)) forced.comps i entries is.entries there in
      let (f, (r, s, written, place, in_force), its) = each.each e (place-contains entries k e e_at) in
      let rule_at : slice_get (rules forced.tables.spec T) i ≡ Some p = ap (λ (names : List ℕ). slice_get (plain_rules forced.tables.spec names) i) are.symbols ∙ number in
      let (forces, forces_at, exactly) = zip-right (λ p fs. (f : Force) → Contains fs f ↔ IsForced forced.tables.spec p f) (rules forced.tables.spec T) T.forced i p are.numbers.forced rule_at in (
        f,
        r,
        s,
        record { rule = p; number = number; written = written; at = place; in_force = in_force; entry = its },
        record {
          rule = p;
          forces = forces;
          number = at-zip (rules forced.tables.spec T) T.forced i p forces rule_at forces_at;
          there = (exactly f).1 (r, s, written, place, in_force);
          written = written;
          at = place;
        },
      )

  no-fault : (i : ℕ) (e : Entry) (f : Force) (r : RuleItem) (s : ℕ) (x : SpecFault) → IsTypedEntry forced.tables texts i e → IsEntryAt forced.tables i e f r s → HasFault forced.tables.spec T texts f r s x → ⊥
  no-fault i e f r s x typed at h = no-computation-fault forced.tables.spec single T.sets texts f.holder r s f.goal f.comp x (typed f r s at T.sets) h

  -- where all entries have their types there is no fault
  pub none-faulty : AreTypedBefore forced.tables texts forced.comps (length forced.comps) → HasNone (type_faults forced.tables.spec T texts)
  none-faulty typed = (
    (λ x fault.
        let (entries, k, e, there, e_at, at) = entry-of fault.i fault.force fault.rule fault.symbol fault.is_there in
        no-fault fault.i e fault.force fault.rule fault.symbol x (typed fault.i entries (slice_get_within forced.comps fault.i entries there) there k e e_at) at fault.fault),
    tt,
  )

  pub first-faulty : (x : SpecFault) → IsFirstOf forced.tables texts forced.comps x → First (type_faults forced.tables.spec T texts) x
  first-faulty x h =
      let (f, r, s, at, there) = force-of h.j h.first.k h.entries h.first.entry h.there h.first.at in
      inl (record { i = h.j; force = f; rule = r; symbol = s; is_there = there; fault = h.first.has f r s at T.sets; first = λ j g q t y its has before. earlier f r s at j g q t y its has before })
    where
      earlier : (f : Force) (r : RuleItem) (s : ℕ) → IsEntryAt forced.tables h.j h.first.entry f r s → (j : ℕ) (g : Force) (q : RuleItem) (t : ℕ) (y : SpecFault) → IsForcedAt forced.tables.spec T texts j g q t → HasFault forced.tables.spec T texts g q t y
          → IsBeforeIn (force_place forced.tables.spec T texts j g) (force_place forced.tables.spec T texts h.j f) → ⊥
      earlier f r s at j g q t y its has before = let (entries, k, e, there, e_at, mine) = entry-of j g q t its in by entries k e there e_at mine before
        where
          by : (entries : List Entry) (k : ℕ) (e : Entry) → slice_get forced.comps j ≡ Some entries → slice_get entries k ≡ Some e → IsEntryAt forced.tables j e g q t
              → IsBeforeIn (force_place forced.tables.spec T texts j g) (force_place forced.tables.spec T texts h.j f) → ⊥
          by entries k e there e_at mine (inl less) = no-fault j e g q t y (h.before j entries less there k e e_at) mine has
          by entries k e there e_at mine (inr (same, rest)) = go (cases_lt k h.first.k) (cases_lt h.first.k k)
            where
              list : entries ≡ h.entries
              list = same_Some entries h.entries (sym there ∙ ap (slice_get forced.comps) same ∙ h.there)

              here : slice_get h.entries k ≡ Some e
              here = ap (λ (z : List Entry). slice_get z k) (sym list) ∙ e_at

              -- the same plain rule
              moved : IsEntryAt forced.tables h.j e g q t
              moved = subst (λ n. IsEntryAt forced.tables n e g q t) same mine

              rule-same : moved.rule ≡ at.rule
              rule-same = same_Some moved.rule at.rule (sym moved.number ∙ at.number)

              go : (k < h.first.k) ⊎ (h.first.k ≤ k) → (h.first.k < k) ⊎ (k ≤ h.first.k) → ⊥
              go (inl lt) _ = no-fault h.j e g q t y (h.first.before k e lt here) moved has
              go (inr le) (inl lt) =
                  let (p, number, each) = zip-left (AreEntriesOf forced.tables) (plain_rules forced.tables.spec (named_symbols forced.tables)) forced.comps h.j h.entries is.entries h.there in
                  let early = pair-at IsEarlier h.entries h.first.k k h.first.entry e each.in_order h.first.at here lt in
                  let named = ap (slice_get (named_symbols forced.tables)) (symbol-same forced.tables env is.tables h.j h.first.entry f r s at) ∙ number-here forced.tables env is.tables h.j h.first.entry f r s at in
                  let order = entry-order forced.tables env texts is.tables text none T are.numbers.attributes h.j s at.rule h.first.entry e f g at.entry (subst (λ z. IsEntryOf forced.tables z e g) rule-same moved.entry) named early in
                  not-both (force_place forced.tables.spec T texts h.j f) (force_place forced.tables.spec T texts h.j g) order (inr (refl, rest))
              go (inr le) (inr ge) =
                  let one : h.first.entry ≡ e = same_Some h.first.entry e (sym h.first.at ∙ ap (slice_get h.entries) (omega (arith, le, ge)) ∙ here) in
                  entry-same forced.tables env texts is.tables text none T are.numbers.attributes at.rule h.first.entry f g at.entry
                  (subst (λ z. IsEntryOf forced.tables at.rule z g) (sym one) (subst (λ z. IsEntryOf forced.tables z e g) rule-same moved.entry)) rest
