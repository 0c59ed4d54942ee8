-- Facts that are put together, and tables of them.
use Rattle.std.specs.Prelude.{slice_get, Contains, if◌then◌else◌}
use Rattle.std.specs.Option.{option_or}
use Rattle.std.proofs.Common.{◌≡◌, ℕ, ◌+◌, ◌≤◌, ◌⊎◌, inl, inr, Bool, true, false, nat_eq, List, length, take, take_all, Option, Some, None, refl, sym, ap, subst, ◌∙◌, eqb-true, eq-eqb}
use Rattle.lido_base.proofs.Lists.{contains-nil}
use Rattle.lido_base.proofs.TreeLemmas.{both}
use Rattle.lido_syntax.specs.declared.spec.Decl.{Decl}
use Rattle.lido_syntax.specs.Production.{name_of}
use Rattle.least_paths.proofs.GraphLemmas.{next-cases, next-old, next-here}
use Rattle.symbol_attributes.specs.declared.facts.Facts.{Facts}
use Rattle.symbol_attributes.specs.declared.facts.Said.{Said}
use Rattle.symbol_attributes.specs.declared.facts.FactTable.{FactTable}
use Rattle.symbol_attributes.specs.declared.facts.AttrTable.{AttrTable}
use Rattle.symbol_attributes.specs.Facts.{combined, added, joined, IsOneOf, AreSummed, AreSums, is_same_key, known, known_of, said, IsTableOf, declared_facts, IsSaidBy, IsAttrTableOf}

one-or : {V : Type 0} (P Q : V → Type 0) (a b : Option V) → IsOneOf P a → IsOneOf Q b → IsOneOf (λ v. P v ⊎ Q v) (option_or a b)
one-or P Q (Some v) b p q = inl p
one-or P Q None (Some v) p q = inr q
one-or P Q None None p q = λ v h. elim h [ inl x ↦ p v x | inr x ↦ q v x ]

pub one-same : {V : Type 0} {P Q : V → Type 0} (a : Option V) → ((v : V) → P v → Q v) → ((v : V) → Q v → P v) → IsOneOf P a → IsOneOf Q a
one-same (Some v) to from p = to v p
one-same None to from p = λ v q. p v (from v q)

-- what some facts of these say of a matter
abbrev Some-say : {V : Type 0} → (Facts → Option V) → (Facts → Type 0) → V → Type 0
Some-say field P v = (g : Facts) × P g × (field g ≡ Some v)

say-or : {V : Type 0} (field : Facts → Option V) (P Q : Facts → Type 0) (a b : Option V) → IsOneOf (Some-say field P) a → IsOneOf (Some-say field Q) b
    → IsOneOf (Some-say field (λ f. P f ⊎ Q f)) (option_or a b)
say-or field P Q a b p q = one-same (option_or a b)
    (λ v h. elim h [ inl x ↦ (x.0, inl x.1, x.2) | inr x ↦ (x.0, inr x.1, x.2) ])
    (λ v h. elim h.1 [ inl x ↦ inl (h.0, x, h.2) | inr x ↦ inr (h.0, x, h.2) ])
    (one-or (Some-say field P) (Some-say field Q) a b p q)

say-same : {V : Type 0} (field : Facts → Option V) (P Q : Facts → Type 0) (a : Option V) → ((f : Facts) → P f → Q f) → ((f : Facts) → Q f → P f)
    → IsOneOf (Some-say field P) a → IsOneOf (Some-say field Q) a
say-same field P Q a to from p = one-same a (λ v h. (h.0, to h.0 h.1, h.2)) (λ v h. (h.0, from h.0 h.1, h.2)) p

say-one : {V : Type 0} (field : Facts → Option V) (f : Facts) (a : Option V) → field f ≡ a → IsOneOf (Some-say field (λ g. g ≡ f)) a
say-one field f (Some v) e = (f, refl, e)
say-one field f None e = λ v h. absurd (let same = ap field h.1 in let there = h.2 in cc)

pub summed-one : (f : Facts) → AreSummed (λ g. g ≡ f) f
summed-one f = record {
  there = (f, refl);
  ty = say-one (λ g. g.ty) f f.ty refl;
  kind = say-one (λ g. g.kind) f f.kind refl;
  told = say-one (λ g. g.told) f f.told refl;
}

pub summed-same : {P Q : Facts → Type 0} (f : Facts) → ((g : Facts) → P g → Q g) → ((g : Facts) → Q g → P g) → AreSummed P f → AreSummed Q f
summed-same {P} {Q} f to from p = record {
  there = (p.there.0, to p.there.0 p.there.1);
  ty = say-same (λ g. g.ty) P Q f.ty to from p.ty;
  kind = say-same (λ g. g.kind) P Q f.kind to from p.kind;
  told = say-same (λ g. g.told) P Q f.told to from p.told;
}

pub sums-same : {P Q : Facts → Type 0} (o : Option Facts) → ((g : Facts) → P g → Q g) → ((g : Facts) → Q g → P g) → AreSums P o → AreSums Q o
sums-same None to from p = λ f q. p f (from f q)
sums-same (Some f) to from p = summed-same f to from p

summed-or : {P Q : Facts → Type 0} (f g : Facts) → AreSummed P f → AreSummed Q g → AreSummed (λ h. P h ⊎ Q h) (combined f g)
summed-or {P} {Q} f g p q = record {
  there = (p.there.0, inl p.there.1);
  ty = say-or (λ h. h.ty) P Q f.ty g.ty p.ty q.ty;
  kind = say-or (λ h. h.kind) P Q f.kind g.kind p.kind q.kind;
  told = say-or (λ h. h.told) P Q f.told g.told p.told q.told;
}

pub summed-added : {P Q : Facts → Type 0} (o : Option Facts) (g : Facts) → AreSums P o → AreSummed Q g → AreSummed (λ h. P h ⊎ Q h) (added o g)
summed-added None g none q = summed-same g (λ h x. inr x) (λ h x. elim x [ inl y ↦ absurd (none h y) | inr y ↦ y ]) q
summed-added (Some f) g p q = summed-or f g p q

pub sums-or : (P Q : Facts → Type 0) (a b : Option Facts) → AreSums P a → AreSums Q b → AreSums (λ h. P h ⊎ Q h) (joined a b)
sums-or P Q a None p none = sums-same a (λ h x. inl x) (λ h x. elim x [ inl y ↦ y | inr y ↦ absurd (none h y) ]) p
sums-or P Q a (Some g) p q = summed-added a g p q

-- one saying more
pub table-step : (list : List Said) (i : ℕ) (x : Said) (old new : FactTable) → slice_get list i ≡ Some x → IsTableOf (take i list) old
    → ((s a : ℕ) → known new s a ≡ (if is_same_key (x.symbol.0, x.attribute.0) (s, a) then Some (added (known old x.symbol.0 x.attribute.0) x.facts) else known old s a))
    → IsTableOf (take (i + 1) list) new
table-step list i x old new at is more s a = subst (AreSums (λ f. Contains (take (i + 1) list) (said s a f))) (sym (more s a)) (go (is_same_key (x.symbol.0, x.attribute.0) (s, a)) refl)
  where
    here : Facts → Type 0
    here f = Contains (take i list) (said s a f)

    other : is_same_key (x.symbol.0, x.attribute.0) (s, a) ≡ false → (f : Facts) → x ≡ said s a f → ⊥
    other apart f e = absurd (let p = eq-eqb x.symbol.0 s (ap (λ (y : Said). y.symbol.0) e) in let q = eq-eqb x.attribute.0 a (ap (λ (y : Said). y.attribute.0) e) in cc)

    go : (b : Bool) → is_same_key (x.symbol.0, x.attribute.0) (s, a) ≡ b
        → AreSums (λ f. Contains (take (i + 1) list) (said s a f)) (if b then Some (added (known old x.symbol.0 x.attribute.0) x.facts) else known old s a)
    go true e =
        let (es, ea) = both (nat_eq x.symbol.0 s) (nat_eq x.attribute.0 a) e in
        let ss : x.symbol.0 ≡ s = eqb-true x.symbol.0 s es in
        let aa : x.attribute.0 ≡ a = eqb-true x.attribute.0 a ea in
        let same : x ≡ said s a x.facts = λ k. record { symbol = record { 0 = ss k }; attribute = record { 0 = aa k }; facts = x.facts } in
        subst (λ (o : Option Facts). AreSums (λ f. Contains (take (i + 1) list) (said s a f)) (Some (added o x.facts))) (λ k. known old (sym ss k) (sym aa k))
        (summed-same (added (known old s a) x.facts)
        (λ g h. elim h [
          | inl m ↦ next-old list i x (said s a g) at m
          | inr e ↦ subst (λ y. Contains (take (i + 1) list) y) (same ∙ ap (said s a) (sym e)) (next-here list i x at)
        ])
        (λ g m. elim (next-cases list i x (said s a g) at m) [ inl m ↦ inl m | inr e ↦ inr (ap (λ (y : Said). y.facts) (sym e)) ])
        (summed-added (known old s a) x.facts (is s a) (summed-one x.facts)))
    go false e = sums-same (known old s a) (λ g m. next-old list i x (said s a g) at m)
        (λ g m. elim (next-cases list i x (said s a g) at m) [ inl m ↦ m | inr same ↦ absurd (other e g same) ]) (is s a)

pub table-none : (list : List Said) (table : FactTable) → ((s a : ℕ) → known table s a ≡ None) → IsTableOf (take 0 list) table
table-none list table none s a = subst (AreSums (λ f. Contains (take 0 list) (said s a f))) (sym (none s a)) (λ f m. contains-nil (said s a f) m)

pub table-all : (list : List Said) (i : ℕ) (table : FactTable) → length list ≤ i → IsTableOf (take i list) table → IsTableOf list table
table-all list i table l is = subst (λ (xs : List Said). IsTableOf xs table) (take_all i list l) is

-- one declaration more
pub attrs-step : (decls : List Decl) (i : ℕ) (d : Decl) (old new : AttrTable) → slice_get decls i ≡ Some d → IsAttrTableOf (take i decls) old
    → ((a : ℕ) → known_of new a ≡ (if nat_eq (name_of d.attr) a then Some (added (known_of old (name_of d.attr)) (declared_facts d)) else known_of old a))
    → IsAttrTableOf (take (i + 1) decls) new
attrs-step decls i d old new at is more a = subst (AreSums (IsSaidBy (take (i + 1) decls) a)) (sym (more a)) (go (nat_eq (name_of d.attr) a) refl)
  where
    old-said : (f : Facts) → IsSaidBy (take i decls) a f → IsSaidBy (take (i + 1) decls) a f
    old-said f (c, m, ea, ef) = (c, next-old decls i d c at m, ea, ef)

    go : (b : Bool) → nat_eq (name_of d.attr) a ≡ b → AreSums (IsSaidBy (take (i + 1) decls) a) (if b then Some (added (known_of old (name_of d.attr)) (declared_facts d)) else known_of old a)
    go true e =
        let aa : name_of d.attr ≡ a = eqb-true (name_of d.attr) a e in
        subst (λ (o : Option Facts). AreSums (IsSaidBy (take (i + 1) decls) a) (Some (added o (declared_facts d)))) (λ k. known_of old (sym aa k))
        (summed-same (added (known_of old a) (declared_facts d))
        (λ g h. elim h [
          | inl m ↦ old-said g m
          | inr e ↦ (d, next-here decls i d at, aa, e)
        ])
        (λ g (c, m, ea, ef). elim (next-cases decls i d c at m) [ inl m ↦ inl (c, m, ea, ef) | inr same ↦ inr (ef ∙ ap declared_facts (sym same)) ])
        (summed-added (known_of old a) (declared_facts d) (is a) (summed-one (declared_facts d))))
    go false e = sums-same (known_of old a) old-said
        (λ g (c, m, ea, ef). elim (next-cases decls i d c at m) [
          | inl m ↦ (c, m, ea, ef)
          | inr same ↦ absurd (let k = eq-eqb (name_of d.attr) a (ap (λ (x : Decl). name_of x.attr) same ∙ ea) in cc)
        ]) (is a)

pub attrs-none : (decls : List Decl) (table : AttrTable) → ((a : ℕ) → known_of table a ≡ None) → IsAttrTableOf (take 0 decls) table
attrs-none decls table none a = subst (AreSums (IsSaidBy (take 0 decls) a)) (sym (none a)) (λ f (d, m, ea, ef). absurd (contains-nil d m))

pub attrs-all : (decls : List Decl) (i : ℕ) (table : AttrTable) → length decls ≤ i → IsAttrTableOf (take i decls) table → IsAttrTableOf decls table
attrs-all decls i table l is = subst (λ (xs : List Decl). IsAttrTableOf xs table) (take_all i decls l) is

-- one symbol more on which something is said
pub on-step : (list : List Said) (table : FactTable) (symbols : List ℕ) (a i x : ℕ) (found other more : Option Facts) → slice_get symbols i ≡ Some x → IsTableOf list table → other ≡ known table x a → more ≡ joined found other
    → AreSums (λ f. (s : ℕ) × Contains (take i symbols) s × Contains list (said s a f)) found → AreSums (λ f. (s : ℕ) × Contains (take (i + 1) symbols) s × Contains list (said s a f)) more
on-step list table symbols a i x found other more at is eo em sums =
    subst (AreSums (λ f. (s : ℕ) × Contains (take (i + 1) symbols) s × Contains list (said s a f))) (sym (em ∙ ap (joined found) eo))
    (sums-same (joined found (known table x a))
    (λ f h. elim h [
      | inl old ↦ (old.0, next-old symbols i x old.0 at old.1, old.2)
      | inr new ↦ (x, next-here symbols i x at, new)
    ])
    (λ f (s, m, k). elim (next-cases symbols i x s at m) [
      | inl old ↦ inl (s, old, k)
      | inr same ↦ inr (subst (λ z. Contains list (said z a f)) (sym same) k)
    ])
    (sums-or (λ f. (s : ℕ) × Contains (take i symbols) s × Contains list (said s a f)) (λ f. Contains list (said x a f)) found (known table x a) sums (is x a)))

pub on-all : (list : List Said) (symbols : List ℕ) (a i : ℕ) (found : Option Facts) → length symbols ≤ i
    → AreSums (λ f. (s : ℕ) × Contains (take i symbols) s × Contains list (said s a f)) found → AreSums (λ f. (s : ℕ) × Contains symbols s × Contains list (said s a f)) found
on-all list symbols a i found l sums = subst (λ (xs : List ℕ). AreSums (λ f. (s : ℕ) × Contains xs s × Contains list (said s a f)) found) (take_all i symbols l) sums
