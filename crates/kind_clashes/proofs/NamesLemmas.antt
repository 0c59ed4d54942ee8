-- Sets of names that grow.
use Rattle.std.specs.Prelude.{Contains, slice_get, nat_eq, ◌||◌, Bool, true, false, IsTrue, map}
use Rattle.std.proofs.Common.{◌≡◌, ℕ, ◌+◌, ◌≤◌, ◌⊎◌, inl, inr, List, length, Some, refl, arith, ap, sym, subst, ◌∙◌, rules, eqb-true, true≢false}
use Rattle.std.proofs.lemmas.Bool.{cases_lt}
use Rattle.std.proofs.lemmas.Option.{same_Some, slice_get_within}
use Rattle.lido_base.proofs.Lists.{contains-place, place-contains, contains-map, map-contains}
use Rattle.lido_syntax.specs.declared.spec.Name.{Name}
use Rattle.lido_syntax.specs.Production.{name_of}
use Rattle.kind_clashes.specs.declared.names.Names.{Names}
use Rattle.kind_clashes.specs.Least.{Among}
use Rattle.kind_clashes.specs.Names.{has, IsSetOf, HasMore}
use Rattle.kind_clashes.proofs.LeastLemmas.{AmongFirst}

or_cases : (a b : Bool) → IsTrue (a || b) → IsTrue a ⊎ IsTrue b
or_cases true b h = inl refl
or_cases false b h = inr h

or_left : (a b : Bool) → IsTrue a → IsTrue (a || b)
or_left true b h = refl
or_left false b h = absurd (true≢false (sym h))

or_right : (a b : Bool) → IsTrue b → IsTrue (a || b)
or_right true b h = refl
or_right false b h = h

pub more-none : {P : ℕ → Type 0} {names : Names} → ((id : ℕ) → ¬ P id) → HasMore P names names
more-none none = record { only = λ id h. inl h; kept = λ id h. h; all = λ id h. absurd (none id h) }

pub more-same : {P Q : ℕ → Type 0} {a b : Names} → ((id : ℕ) → P id → Q id) → ((id : ℕ) → Q id → P id) → HasMore P a b → HasMore Q a b
more-same to from more = record {
  only = λ id h. elim (more.only id h) [ inl old ↦ inl old | inr is ↦ inr (to id is) ];
  kept = more.kept;
  all = λ id q. more.all id (from id q);
}

pub more-or : {P Q : ℕ → Type 0} {a b c : Names} → HasMore P a b → HasMore Q b c → HasMore (λ id. P id ⊎ Q id) a c
more-or p q = record {
  only = λ id h. elim (q.only id h) [ inl old ↦ elim (p.only id old) [ inl first ↦ inl first | inr is ↦ inr (inl is) ] | inr is ↦ inr (inr is) ];
  kept = λ id h. q.kept id (p.kept id h);
  all = λ id h. elim h [ inl is ↦ q.kept id (p.all id is) | inr is ↦ q.all id is ];
}

pub more-one : {a b : Names} {x : ℕ} → ((other : ℕ) → has b other ≡ (nat_eq x other || has a other)) → HasMore (λ id. x ≡ id) a b
more-one {a} {b} {x} e = record {
  only = λ id h. elim (or_cases (nat_eq x id) (has a id) (sym (e id) ∙ h)) [ inl same ↦ inr (eqb-true x id same) | inr old ↦ inl old ];
  kept = λ id h. e id ∙ or_right (nat_eq x id) (has a id) h;
  all = λ id same. e id ∙ or_left (nat_eq x id) (has a id) (subst (λ y. IsTrue (nat_eq x y)) same (same-eq x));
}
  where
    same-eq : (n : ℕ) → IsTrue (nat_eq n n)
    same-eq n = search rules

pub more-begin : {X : Type 0} {Q : X → ℕ → Type 0} {xs : List X} {a : Names} → HasMore (AmongFirst Q xs 0) a a
more-begin = more-none (λ id h. let below = h.below in omega (arith, below))

pub more-step : {X : Type 0} {Q : X → ℕ → Type 0} {xs : List X} {i : ℕ} {a b c : Names} (x : X) → slice_get xs i ≡ Some x → HasMore (AmongFirst Q xs i) a b → HasMore (Q x) b c
    → HasMore (AmongFirst Q xs (i + 1)) a c
more-step {X} {Q} {xs} {i} x got before here = more-same
    (λ at h. elim h [
      | inl first ↦ record { place = first.place; item = first.item; below = (let lt = first.below in omega (arith, lt)); got = first.got; is = first.is }
      | inr is ↦ record { place = i; item = x; below = (omega arith); got = got; is = is }
    ])
    (λ at h. elim (cases_lt h.place i) [
      | inl lt ↦ inl (record { place = h.place; item = h.item; below = lt; got = h.got; is = h.is })
      | inr le ↦ inr (let below = h.below in let e : h.place ≡ i = omega (arith, below, le) in
          let same : h.item ≡ x = same_Some _ _ (sym h.got ∙ ap (λ n. slice_get xs n) e ∙ got) in subst (λ z. Q z at) same h.is)
    ])
    (more-or before here)

pub more-end : {X : Type 0} {Q : X → ℕ → Type 0} {xs : List X} {i : ℕ} {a b : Names} → length xs ≤ i → HasMore (AmongFirst Q xs i) a b → HasMore (Among Q xs) a b
more-end {X} {Q} {xs} {i} all more = more-same
    (λ at h. record { item = h.item; among = place-contains xs h.place h.item h.got; is = h.is })
    (λ at h. let p = contains-place xs h.item h.among in record { place = p.0; item = h.item; below = (let lt = slice_get_within xs p.0 h.item p.1 in omega (arith, lt, all)); got = p.1; is = h.is })
    more

-- what was added to the empty set is the set
pub set-of : {P : ℕ → Type 0} {a b : Names} → ((id : ℕ) → has a id ≡ false) → HasMore P a b → IsSetOf P b
set-of none more = record {
  only = λ id h. elim (more.only id h) [ inl old ↦ absurd (true≢false (sym old ∙ none id)) | inr is ↦ is ];
  all = more.all;
}

pub names-among : {a b : Names} (names : List Name) → HasMore (Among (λ (x : Name) id. name_of x ≡ id) names) a b → HasMore (λ id. Contains (map name_of names) id) a b
names-among names more = more-same
    (λ id h. subst (λ q. Contains (map name_of names) q) h.is (map-contains name_of names h.item h.among))
    (λ id h. let p = contains-map name_of names id h in record { item = p.0; among = p.1; is = p.2 })
    more

pub more-at : {X : Type 0} {Q : X → ℕ → Type 0} {xs ys : List X} {a b : Names} → xs ≡ ys → HasMore (Among Q xs) a b → HasMore (Among Q ys) a b
more-at {X} {Q} {xs} {ys} {a} {b} e more = subst (λ (zs : List X). HasMore (Among Q zs) a b) e more
