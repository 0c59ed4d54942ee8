-- The least place of a computation behind another one of the same.
use Rattle.std.specs.Prelude.{IsTrue, slice_get, Contains, Bool, true, false, cond, map}
use Rattle.std.proofs.Common.{◌≡◌, ℕ, ◌+◌, ◌<◌, ◌≤◌, inl, inr, List, Option, Some, None, length, refl, arith, sym, ap, subst, ◌∙◌}
use Rattle.std.proofs.lemmas.Bool.{cases_lt}
use Rattle.std.proofs.lemmas.Option.{same_Some, slice_get_within}
use Rattle.lido_syntax.specs.declared.spec.Name.{Name}
use Rattle.lido_syntax.specs.declared.spec.SymbolItem.{SymbolItem}
use Rattle.lido_syntax.specs.Production.{name_of}
use Rattle.lido_syntax.specs.Sets.{names_of}
use Rattle.lido_base.proofs.Lists.{map-contains, contains-map}
use Rattle.computation_aims.specs.Keys.{is_same_aim}
use Rattle.computation_aims.proofs.KeyLemmas.{same-aim}
use Rattle.computation_aims.specs.declared.aims.Aim.{Aim}
use Rattle.kind_clashes.specs.declared.names.Names.{Names}
use Rattle.kind_clashes.specs.Least.{IsFirst, Among, earlier_of}
use Rattle.kind_clashes.specs.Names.{IsSetOf, HasMore}
use Rattle.kind_clashes.proofs.LeastLemmas.{AmongFirst, first-none, first-one, first-same, first-begin, first-step}
use Rattle.kind_clashes.proofs.NamesLemmas.{more-none, more-same, more-or}
use Rattle.table_faults.specs.declared.doubles.Computed.{Computed}
use Rattle.table_faults.specs.declared.doubles.Firsts.{Firsts}
use Rattle.table_faults.specs.Doubles.{first_at, IsComputedAs, AreFirsts, IsLater, IsDoubleIn, IsSeen, IsShared}

pub firsts-begin : (all : List Computed) (firsts : Firsts) → ((place : ℕ) (aim : Aim) → first_at firsts place aim ≡ None)
    → (place : ℕ) (aim : Aim) → IsFirst (AmongFirst (IsComputedAs place aim) all 0) (first_at firsts place aim)
firsts-begin all firsts none place aim = subst (λ o. IsFirst (AmongFirst (IsComputedAs place aim) all 0) o) (sym (none place aim)) first-begin

earlier-none : (o : Option ℕ) → earlier_of o None ≡ o
earlier-none None = refl
earlier-none (Some n) = refl

pub firsts-step : (all : List Computed) (i : ℕ) (x : Computed) (old new : Firsts) → slice_get all i ≡ Some x
    → ((place : ℕ) (aim : Aim) → first_at new place aim ≡ cond (is_same_aim x.place x.aim place aim) (earlier_of (first_at old x.place x.aim) (Some x.at)) (first_at old place aim))
    → ((place : ℕ) (aim : Aim) → IsFirst (AmongFirst (IsComputedAs place aim) all i) (first_at old place aim))
    → (place : ℕ) (aim : Aim) → IsFirst (AmongFirst (IsComputedAs place aim) all (i + 1)) (first_at new place aim)
firsts-step all i x old new got noted before place aim = by (is_same_aim x.place x.aim place aim) refl
  where
    by : (b : Bool) → is_same_aim x.place x.aim place aim ≡ b → IsFirst (AmongFirst (IsComputedAs place aim) all (i + 1)) (first_at new place aim)
    by true s =
        let same = same-aim x.place place x.aim aim s in
        let at : first_at old x.place x.aim ≡ first_at old place aim = ap (λ p. first_at old p x.aim) same.0 ∙ ap (first_at old place) same.1 in
        first-step x got
        (noted place aim ∙ ap (λ b. cond b (earlier_of (first_at old x.place x.aim) (Some x.at)) (first_at old place aim)) s ∙ ap (λ o. earlier_of o (Some x.at)) at)
        (before place aim) (first-one x.at (s, refl) (λ other h. sym h.1))
    by false s =
        first-step x got
        (noted place aim ∙ ap (λ b. cond b (earlier_of (first_at old x.place x.aim) (Some x.at)) (first_at old place aim)) s ∙ sym (earlier-none (first_at old place aim)))
        (before place aim) (first-none (λ at h. let t : IsTrue (is_same_aim x.place x.aim place aim) = h.0 in cc))

pub double-among : (all : List Computed) (firsts : Firsts) (found : Option ℕ) → AreFirsts all firsts → IsFirst (Among (λ (c : Computed) at. IsLater firsts c at) all) found → IsFirst (IsDoubleIn all) found
double-among all firsts found are first = first-same to from first
  where
    to : (at : ℕ) → Among (λ (c : Computed) at. IsLater firsts c at) all at → IsDoubleIn all at
    to at h =
        let (f, e, lt, place) = h.is in
        let least = ((are h.item.place h.item.aim).some f e).there in
        let its = least.is.1 in
        record { first = least.item; second = h.item; there = least.among; behind = h.among; same = least.is.0; before = omega (arith, lt, its); place = place }

    from : (at : ℕ) → IsDoubleIn all at → Among (λ (c : Computed) at. IsLater firsts c at) all at
    from at h = by (first_at firsts h.second.place h.second.aim) refl
      where
        by : (o : Option ℕ) → first_at firsts h.second.place h.second.aim ≡ o → Among (λ (c : Computed) at. IsLater firsts c at) all at
        by None e = absurd ((are h.second.place h.second.aim).none e h.first.at (record { item = h.first; among = h.there; is = (h.same, refl) }))
        by (Some f) e =
            let low = ((are h.second.place h.second.aim).some f e).least h.first.at (record { item = h.first; among = h.there; is = (h.same, refl) }) in
            let before = h.before in
            record { item = h.second; among = h.behind; is = (f, e, (omega (arith, low, before)), h.place) }

pub names-at : {names others : List Name} {a b : Names} → names ≡ others → HasMore (λ id. Contains (map name_of names) id) a b → HasMore (λ id. Contains (map name_of others) id) a b
names-at {names} {others} {a} {b} e more = subst (λ (l : List Name). HasMore (λ id. Contains (map name_of l) id) a b) e more

-- names that two of the first items are about
pub record IsSharedFirst (items : List SymbolItem) (i s : ℕ) : Type 0 where
  pub is : IsShared items s
  pub below : is.second < i

pub shared-begin : (items : List SymbolItem) {a : Names} → HasMore (IsSharedFirst items 0) a a
shared-begin items = more-none (λ id h. let below = h.below in omega (arith, below))

pub shared-step : (items : List SymbolItem) (i : ℕ) (item : SymbolItem) (seen : Names) {a b c : Names} → slice_get items i ≡ Some item
    → IsSetOf (AmongFirst (λ (q : SymbolItem) id. Contains (names_of q) id) items i) seen → HasMore (IsSharedFirst items i) a b → HasMore (Among (IsSeen seen) item.names) b c
    → HasMore (IsSharedFirst items (i + 1)) a c
shared-step items i item seen got set before here = more-same
    (λ id h. elim h [
      | inl old ↦ record { is = old.is; below = (let lt = old.below in omega (arith, lt)) }
      | inr new ↦ (let m = set.only (name_of new.item) new.is.0 in record {
        is = record {
          first = m.place;
          second = i;
          item = m.item;
          other = item;
          before = m.below;
          there = m.got;
          behind = got;
          in_item = subst (λ s. Contains (names_of m.item) s) new.is.1 m.is;
          in_other = subst (λ s. Contains (names_of item) s) new.is.1 (map-contains name_of item.names new.item new.among);
        };
        below = omega arith;
      })
    ])
    (λ id h. elim (cases_lt h.is.second i) [
      | inl lt ↦ inl (record { is = h.is; below = lt })
      | inr le ↦ inr (let below = h.below in let f : h.is.second ≡ i = omega (arith, below, le) in
          let same : h.is.other ≡ item = same_Some _ _ (sym h.is.behind ∙ ap (λ n. slice_get items n) f ∙ got) in
          let before = h.is.before in
          let (x, among, its) = contains-map name_of item.names id (subst (λ (q : SymbolItem). Contains (names_of q) id) same h.is.in_other) in
          record {
            item = x;
            among = among;
            is = (set.all (name_of x) (record { place = h.is.first; item = h.is.item; below = (omega (arith, before, f)); got = h.is.there; is = subst (λ s. Contains (names_of h.is.item) s) (sym its) h.is.in_item }), its);
          })
    ])
    (more-or before here)

pub shared-end : (items : List SymbolItem) (i : ℕ) {a b : Names} → length items ≤ i → HasMore (IsSharedFirst items i) a b → HasMore (IsShared items) a b
shared-end items i all more = more-same (λ id h. h.is) (λ id h. record { is = h; below = (let lt = slice_get_within items h.second h.other h.behind in omega (arith, lt, all)) }) more
