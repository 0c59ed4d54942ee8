-- Sets of attributes as words: an attribute more, and all that were looked at.
use Rattle.std.specs.Prelude.{Contains, IsBitSet, MatchOption, Option, Some, None}
use Rattle.std.proofs.Common.{List, [], ◌∷◌, ◌++◌, take, length, get_or, ◌≡◌, ℕ, ◌+◌, ◌<◌, ◌≤◌, ◌⊎◌, inl, inr, sym, ap, subst, arith, ◌↔◌}
use Rattle.std.proofs.lemmas.Bool.{cases_lt}
use Rattle.std.proofs.lemmas.List.{take_more, take_all}
use Rattle.std.proofs.lemmas.List.Elements.{Contains-append_left, Contains-push, Contains-push_cases}
use Rattle.lido_base.specs.declared.ids.AttrId.{AttrId}
use Rattle.flat_grammar.proofs.BitsLemmas.{is-set}
use Rattle.flat_grammar.specs.declared.flat.Occ.{Occ}

-- the elements of a list up to one more place
pub taken-more : {X : Type 0} (xs : List X) (i : ℕ) (d x : X) → i < length xs → Contains (take i xs) x → Contains (take (i + 1) xs) x
taken-more xs i d x h m = subst (λ l. Contains l x) (sym (take_more xs i d h)) (Contains-append_left (take i xs) (get_or xs i d ∷ []) x m)

pub taken-here : {X : Type 0} (xs : List X) (i : ℕ) (d : X) → i < length xs → Contains (take (i + 1) xs) (get_or xs i d)
taken-here xs i d h = subst (λ l. Contains l (get_or xs i d)) (sym (take_more xs i d h)) (Contains-push (take i xs) (get_or xs i d))

pub taken-cases : {X : Type 0} (xs : List X) (i : ℕ) (d x : X) → i < length xs → Contains (take (i + 1) xs) x → Contains (take i xs) x ⊎ (get_or xs i d ≡ x)
taken-cases xs i d x h m = Contains-push_cases (take i xs) (get_or xs i d) x (subst (λ l. Contains l x) (take_more xs i d h) m)

-- the set has the attributes that were looked at
abbrev pub HasTaken : List AttrId → ℕ → ℕ → Type 0
HasTaken attrs i set = (a : AttrId) → IsBitSet set a.0 ↔ ((a.0 < 256) × Contains (take i attrs) a)

pub members-step : (attrs : List AttrId) (i : ℕ) (d : AttrId) (old new : ℕ) → i < length attrs → HasTaken attrs i old
    → ((j : ℕ) → IsBitSet new j ↔ (((j ≡ (get_or attrs i d).0) × (j < 256)) ⊎ IsBitSet old j)) → HasTaken attrs (i + 1) new
members-step attrs i d old new h inv step a = (
  (λ bit. elim ((step a.0).0 bit) [
    | inl here ↦ (here.1, subst (λ x. Contains (take (i + 1) attrs) x) (λ k. record { 0 = sym here.0 k }) (taken-here attrs i d h))
    | inr old-bit ↦ (let p = (inv a).0 old-bit in (p.0, taken-more attrs i d a h p.1))
  ]),
  (λ p. (step a.0).1 (elim (taken-cases attrs i d a h p.1) [
    | inl before ↦ inr ((inv a).1 (p.0, before))
    | inr e ↦ inl (sym (ap (λ (x : AttrId). x.0) e), p.0)
  ])),
)

pub members-all : (attrs : List AttrId) (i : ℕ) (set : ℕ) → length attrs ≤ i → HasTaken attrs i set → (a : AttrId) → IsBitSet set a.0 ↔ ((a.0 < 256) × Contains attrs a)
members-all attrs i set h inv a = subst (λ l. IsBitSet set a.0 ↔ ((a.0 < 256) × Contains l a)) (take_all i attrs h) (inv a)

-- the set has the numbers before i at which this holds
abbrev pub IsFound : (ℕ → Type 0) → ℕ → ℕ → Type 0
IsFound P i set = (j : ℕ) → IsBitSet set j ↔ ((j < 256) × (j < i) × P j)

pub found-one : (P : ℕ → Type 0) (i old new : ℕ) → IsFound P i old → ((j : ℕ) → IsBitSet new j ↔ (((j ≡ i) × (j < 256)) ⊎ IsBitSet old j)) → P i → IsFound P (i + 1) new
found-one P i old new inv step here j = (
  (λ bit. elim ((step j).0 bit) [
    | inl h ↦ (let e = h.0 in (h.1, (omega (arith, e)), subst P (sym e) here))
    | inr o ↦ (let p = (inv j).0 o in let l = p.1 in (p.0, (omega (arith, l)), p.2))
  ]),
  (λ p. (step j).1 (elim (cases_lt j i) [
    | inl l ↦ inr ((inv j).1 (p.0, l, p.2))
    | inr g ↦ (let l = p.1 in inl ((omega (arith, l, g)), p.0))
  ])),
)

pub found-not : (P : ℕ → Type 0) (i old : ℕ) → IsFound P i old → (P i → ⊥) → IsFound P (i + 1) old
found-not P i old inv none j = (
  (λ bit. let p = (inv j).0 bit in let l = p.1 in (p.0, (omega (arith, l)), p.2)),
  (λ p. elim (cases_lt j i) [
    | inl l ↦ (inv j).1 (p.0, l, p.2)
    | inr g ↦ (let l = p.1 in let e : j ≡ i = omega (arith, l, g) in absurd (none (subst P e p.2)))
  ]),
)

-- one more of these attributes of an occurrence
pub one-more : (old new : List Occ) (x u : Occ) → new ≡ old ++ x ∷ [] → x.occ ≡ u.occ → x.attr ≡ u.attr → Contains new u
one-more old new x u items e f = subst (λ k. Contains new (record { occ = k; attr = u.attr })) e (subst (λ a. Contains new (record { occ = x.occ; attr = a })) f (subst (λ l. Contains l x) (sym items) (Contains-push old x)))

-- the first of what the one set has and the other has not
pub first-new : (set old new : ℕ) (found : Option AttrId) → ((j : ℕ) → IsBitSet new j ↔ (IsBitSet set j × (IsBitSet old j → ⊥)))
    → MatchOption found ((j : ℕ) → IsBitSet new j → ⊥) (λ a. (a.0 < 256) × IsBitSet new a.0 × ((j : ℕ) → j < a.0 → IsBitSet new j → ⊥))
    → MatchOption found ((j : ℕ) → IsBitSet set j → IsBitSet old j) (λ a. (a.0 < 256) × IsBitSet set a.0 × (IsBitSet old a.0 → ⊥) × ((j : ℕ) → j < a.0 → IsBitSet set j → IsBitSet old j))
first-new set old new found beside first = go found first
  where
    old-too : (j : ℕ) → (IsBitSet new j → ⊥) → IsBitSet set j → IsBitSet old j
    old-too j none bit = elim (is-set old j) [ inl h ↦ h | inr n ↦ absurd (none ((beside j).1 (bit, n))) ]

    go : (found : Option AttrId) → MatchOption found ((j : ℕ) → IsBitSet new j → ⊥) (λ a. (a.0 < 256) × IsBitSet new a.0 × ((j : ℕ) → j < a.0 → IsBitSet new j → ⊥))
        → MatchOption found ((j : ℕ) → IsBitSet set j → IsBitSet old j) (λ a. (a.0 < 256) × IsBitSet set a.0 × (IsBitSet old a.0 → ⊥) × ((j : ℕ) → j < a.0 → IsBitSet set j → IsBitSet old j))
    go None none = λ j bit. old-too j (none j) bit
    go (Some a) h = (h.0, ((beside a.0).0 h.1).0, ((beside a.0).0 h.1).1, λ j l bit. old-too j (h.2 j l) bit)
