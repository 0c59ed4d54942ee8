-- Least places: of either of two, of one of a list so far.
use Rattle.std.specs.Prelude.{slice_get, min}
use Rattle.std.proofs.Common.{◌≡◌, ℕ, ◌+◌, ◌≤◌, ◌<◌, ◌⊎◌, inl, inr, List, length, Option, Some, None, refl, arith, ap, sym, subst, ◌∙◌}
use Rattle.std.proofs.lemmas.Bool.{cases_lt}
use Rattle.std.proofs.lemmas.Option.{same_Some, slice_get_within}
use Rattle.lido_base.proofs.Lists.{contains-place, place-contains}
use Rattle.kind_clashes.specs.Least.{IsFirst, earlier_of, Among}

-- where it is so nowhere
pub first-none : {P : ℕ → Type 0} → ((at : ℕ) → ¬ P at) → IsFirst P None
first-none none = record { some = λ at e. absurd (cc); none = λ e. none }

-- at one place alone
pub first-one : {P : ℕ → Type 0} (at : ℕ) → P at → ((other : ℕ) → P other → at ≡ other) → IsFirst P (Some at)
first-one {P} at there one = record {
  some = λ other e. let same : at ≡ other = cc in record { there = subst P same there; least = λ x p. let h = one x p in omega (arith, h, same) };
  none = λ e. absurd (cc);
}

-- what is so at the same places
pub first-same : {P Q : ℕ → Type 0} {found : Option ℕ} → ((at : ℕ) → P at → Q at) → ((at : ℕ) → Q at → P at) → IsFirst P found → IsFirst Q found
first-same to from first = record {
  some = λ at e. let h = first.some at e in record { there = to at h.there; least = λ other q. h.least other (from other q) };
  none = λ e at q. first.none e at (from at q);
}

pub first-or : {P Q : ℕ → Type 0} (a b : Option ℕ) → IsFirst P a → IsFirst Q b → IsFirst (λ at. P at ⊎ Q at) (earlier_of a b)
first-or None b p q = first-same (λ at h. inr h) (λ at h. elim h [ inl x ↦ absurd (p.none refl at x) | inr x ↦ x ]) q
first-or (Some one) None p q = first-same (λ at h. inl h) (λ at h. elim h [ inl x ↦ x | inr x ↦ absurd (q.none refl at x) ]) p
first-or {P} {Q} (Some one) (Some other) p q = record {
  some = λ at e. let same : min one other ≡ at = same_Some _ _ e in record {
    there = elim (cases_lt one other) [
      | inl lt ↦ inl (let same' : one ≡ at = omega (arith, lt, same) in subst P same' (p.some one refl).there)
      | inr le ↦ inr (let same' : other ≡ at = omega (arith, le, same) in subst Q same' (q.some other refl).there)
    ];
    least = λ x h. elim h [
      | inl y ↦ (let low = (p.some one refl).least x y in omega (arith, low, same))
      | inr y ↦ (let low = (q.some other refl).least x y in omega (arith, low, same))
    ];
  };
  none = λ e. absurd (cc);
}

-- it is so of one of the first elements
pub record AmongFirst {X : Type 0} (Q : X → ℕ → Type 0) (xs : List X) (i at : ℕ) : Type 0 where
  pub place : ℕ
  pub item : X
  pub below : place < i
  pub got : slice_get xs place ≡ Some item
  pub is : Q item at

pub first-begin : {X : Type 0} {Q : X → ℕ → Type 0} {xs : List X} → IsFirst (AmongFirst Q xs 0) None
first-begin = first-none (λ at h. let below = h.below in omega (arith, below))

pub first-step : {X : Type 0} {Q : X → ℕ → Type 0} {xs : List X} {i : ℕ} {a b r : Option ℕ} (x : X) → slice_get xs i ≡ Some x → r ≡ earlier_of a b
    → IsFirst (AmongFirst Q xs i) a → IsFirst (Q x) b → IsFirst (AmongFirst Q xs (i + 1)) r
first-step {X} {Q} {xs} {i} {a} {b} x got e before here = subst (λ r. IsFirst (AmongFirst Q xs (i + 1)) r) (sym e) (first-same
    (λ at h. elim h [
      | inl first ↦ record { place = first.place; item = first.item; below = (let lt = first.below in omega (arith, lt)); got = first.got; is = first.is }
      | inr is ↦ record { place = i; item = x; below = (omega arith); got = got; is = is }
    ])
    (λ at h. elim (cases_lt h.place i) [
      | inl lt ↦ inl (record { place = h.place; item = h.item; below = lt; got = h.got; is = h.is })
      | inr le ↦ inr (let below = h.below in let e : h.place ≡ i = omega (arith, below, le) in
          let same : h.item ≡ x = same_Some _ _ (sym h.got ∙ ap (λ n. slice_get xs n) e ∙ got) in subst (λ z. Q z at) same h.is)
    ])
    (first-or a b before here))

pub first-end : {X : Type 0} {Q : X → ℕ → Type 0} {xs : List X} {i : ℕ} {a : Option ℕ} → length xs ≤ i → IsFirst (AmongFirst Q xs i) a → IsFirst (Among Q xs) a
first-end {X} {Q} {xs} {i} {a} all first = first-same
    (λ at h. record { item = h.item; among = place-contains xs h.place h.item h.got; is = h.is })
    (λ at h. let p = contains-place xs h.item h.among in record { place = p.0; item = h.item; below = (let lt = slice_get_within xs p.0 h.item p.1 in omega (arith, lt, all)); got = p.1; is = h.is })
    first

pub first-at : {X : Type 0} {Q : X → ℕ → Type 0} {xs ys : List X} {a : Option ℕ} → xs ≡ ys → IsFirst (Among Q xs) a → IsFirst (Among Q ys) a
first-at {X} {Q} {xs} {ys} {a} e first = subst (λ (zs : List X). IsFirst (Among Q zs) a) e first

-- of either of two, where the answer is the earlier of theirs
pub first-join : {P Q : ℕ → Type 0} {a b r : Option ℕ} → r ≡ earlier_of a b → IsFirst P a → IsFirst Q b → IsFirst (λ at. P at ⊎ Q at) r
first-join {P} {Q} {a} {b} e p q = subst (λ r. IsFirst (λ at. P at ⊎ Q at) r) (sym e) (first-or a b p q)

-- what is so under a condition that holds
pub first-if : {P : ℕ → Type 0} {T : Type 0} {a : Option ℕ} → T → IsFirst P a → IsFirst (λ at. T × P at) a
first-if holds first = first-same (λ at p. (holds, p)) (λ at h. h.1) first
