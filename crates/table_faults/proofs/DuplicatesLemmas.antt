-- Rules with the names of earlier rules.
use Rattle.std.specs.Prelude.{IsTrue, slice_get}
use Rattle.std.proofs.Common.{◌≡◌, ℕ, ◌+◌, ◌<◌, ◌≤◌, inl, inr, List, Option, Some, length, arith, sym, ap, subst, ◌∙◌}
use Rattle.std.proofs.lemmas.Bool.{cases_lt}
use Rattle.std.proofs.lemmas.Option.{same_Some, slice_get_within}
use Rattle.lido_base.specs.declared.ids.StrId.{StrId}
use Rattle.lido_base.specs.Environment.{Environment}
use Rattle.lido_syntax.specs.declared.spec.Spec.{Spec}
use Rattle.lido_syntax.specs.declared.spec.RuleItem.{RuleItem}
use Rattle.kind_clashes.specs.declared.names.Names.{Names}
use Rattle.kind_clashes.specs.Least.{IsFirst, earlier_of}
use Rattle.kind_clashes.specs.Names.{has, IsSetOf}
use Rattle.kind_clashes.proofs.LeastLemmas.{AmongFirst, first-same, first-join}
use Rattle.table_faults.specs.Parts.{IsDuplicateIn}
use Rattle.table_faults.specs.Faults.{IsDuplicate, later}

-- one of the first rules with an earlier one's name
pub record IsDuplicateFirst (rules : List RuleItem) (i at : ℕ) : Type 0 where
  pub is : IsDuplicateIn rules at
  pub below : is.second < i

pub duplicate-step : (rules : List RuleItem) (i : ℕ) (rule : RuleItem) (seen : Names) (a b r : Option ℕ) → slice_get rules i ≡ Some rule → r ≡ earlier_of a b
    → IsSetOf (AmongFirst (λ (q : RuleItem) id. q.name.0 ≡ id) rules i) seen → IsFirst (IsDuplicateFirst rules i) a → IsFirst (λ at. IsTrue (has seen rule.name.0) × (at ≡ rule.at)) b
    → IsFirst (IsDuplicateFirst rules (i + 1)) r
duplicate-step rules i rule seen a b r got e set before here = first-same
    (λ at h. elim h [
      | inl old ↦ record { is = old.is; below = (let lt = old.below in omega (arith, lt)) }
      | inr new ↦ (let m = set.only rule.name.0 new.0 in record {
        is = record { first = m.place; second = i; rule = m.item; other = rule; before = m.below; there = m.got; behind = got; same = same_id m.item.name rule.name m.is; place = new.1 };
        below = omega arith;
      })
    ])
    (λ at h. elim (cases_lt h.is.second i) [
      | inl lt ↦ inl (record { is = h.is; below = lt })
      | inr le ↦ inr (let below = h.below in let f : h.is.second ≡ i = omega (arith, below, le) in
          let same : h.is.other ≡ rule = same_Some _ _ (sym h.is.behind ∙ ap (λ n. slice_get rules n) f ∙ got) in
          let before = h.is.before in (
            subst (λ id. IsTrue (has seen id)) (ap (λ (q : RuleItem). q.name.0) same)
                (set.all h.is.other.name.0 (record { place = h.is.first; item = h.is.rule; below = (omega (arith, before, f)); got = h.is.there; is = ap (λ (s : StrId). s.0) h.is.same })),
            h.is.place ∙ ap (λ (q : RuleItem). q.at) same,
          ))
    ])
    (first-join e before here)
  where
    same_id : (s t : StrId) → s.0 ≡ t.0 → s ≡ t
    same_id s t e = ap (λ n. record { 0 = n }) e

pub duplicate-end : (rules : List RuleItem) (i : ℕ) (a : Option ℕ) → length rules ≤ i → IsFirst (IsDuplicateFirst rules i) a → IsFirst (IsDuplicateIn rules) a
duplicate-end rules i a all first = first-same (λ at h. h.is) (λ at h. record { is = h; below = (let lt = slice_get_within rules h.second h.other h.behind in omega (arith, lt, all)) }) first

pub duplicate-is : (spec : Spec) (env : Environment) (a : Option ℕ) → IsFirst (IsDuplicateIn spec.rules) a → IsFirst (IsDuplicate spec env) a
duplicate-is spec env a first = first-same
    (λ at h. later h.first h.second h.rule h.other h.before h.there h.behind h.same h.place)
    (λ at h. elim h [ later i j r q lt there behind same place ↦ record { first = i; second = j; rule = r; other = q; before = lt; there = there; behind = behind; same = same; place = place } ])
    first
