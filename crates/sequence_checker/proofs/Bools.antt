-- Tests and what they say.
use Rattle.std.specs.Prelude.{Bool, true, false, cond, ◌&&◌, ◌||◌, IsTrue, All, Contains, nat_eq}
use Rattle.std.specs.List.{list_any, list_all}
use Rattle.std.proofs.Common.{◌≡◌, List, [], ◌∷◌, refl, ◌⊎◌, inl, inr, sym, ap, ◌∙◌, subst, true≢false, eqb-true, eq-eqb}
use Rattle.std.proofs.lemmas.List.Elements.{All-cons, All-nil, All-head, All-tail}
use Rattle.lido_base.specs.declared.ids.AttrId.{AttrId}
use Rattle.flat_grammar.specs.declared.flat.Occ.{Occ}
use Rattle.flat_grammar.specs.WellFormed.{is_same_occ}
use Rattle.flat_grammar.proofs.Lists.{contains-nil, contains-cons, contains-first, contains-later}

pub cond-or : (b c : Bool) → cond b true c ≡ (b || c)
cond-or true c = refl
cond-or false c = refl

-- one more member of a class goes into the set
pub one_more : (old k among attr : Bool) → ((k && attr) || (old || (k && among))) ≡ (old || (k && (among || attr)))
one_more true k among attr = absorbed (k && attr)
  where
    absorbed : (b : Bool) → (b || true) ≡ true
    absorbed true = refl
    absorbed false = refl
one_more false false among attr = refl
one_more false true true true = refl
one_more false true true false = refl
one_more false true false true = refl
one_more false true false false = refl

pub none_more : (old k : Bool) → old ≡ (old || (k && false))
none_more true k = refl
none_more false true = refl
none_more false false = refl

pub never : {X : Type 0} → false ≡ true → X
never e = absurd (true≢false (sym e))

-- what two tests together, either of them, and a denied one say
pub both : (a b : Bool) → IsTrue (a && b) → IsTrue a × IsTrue b
both true b h = (refl, h)
both false b h = never h

pub together : (a b : Bool) → IsTrue a → IsTrue b → IsTrue (a && b)
together true b p q = q
together false b p q = never p

pub either : (a b : Bool) → IsTrue (a || b) → IsTrue a ⊎ IsTrue b
either true b h = inl refl
either false b h = inr h

pub left : (a b : Bool) → IsTrue a → IsTrue (a || b)
left true b h = refl
left false b h = never h

pub right : (a b : Bool) → IsTrue b → IsTrue (a || b)
right true b h = refl
right false b h = h

pub denied : (a : Bool) → a ≡ false → IsTrue a → ⊥
denied a e h = never (sym e ∙ h)

-- a test of each element
pub all-tested : {X : Type 0} (p : X → Bool) (xs : List X) → IsTrue (list_all p xs) → All (λ x. IsTrue (p x)) xs
all-tested p [] h = All-nil _
all-tested p (x ∷ xs) h = let b = both (p x) (list_all p xs) h in All-cons (λ y. IsTrue (p y)) x xs b.0 (all-tested p xs b.1)

pub tested-all : {X : Type 0} (p : X → Bool) (xs : List X) → All (λ x. IsTrue (p x)) xs → IsTrue (list_all p xs)
tested-all p [] h = refl
tested-all p (x ∷ xs) h = together (p x) (list_all p xs) (All-head (λ y. IsTrue (p y)) x xs h) (tested-all p xs (All-tail (λ y. IsTrue (p y)) x xs h))

pub same-attribute : (a b : AttrId) → a.0 ≡ b.0 → a ≡ b
same-attribute a b e = λ i. record { 0 = e i }

-- an attribute is in a list where a test of the numbers finds it
pub any-contains : (attrs : List AttrId) (b : AttrId) → IsTrue (list_any (λ (a : AttrId). nat_eq a.0 b.0) attrs) → Contains attrs b
any-contains [] b h = never h
any-contains (a ∷ attrs) b h = elim (either (nat_eq a.0 b.0) (list_any (λ (x : AttrId). nat_eq x.0 b.0) attrs) h) [
  | inl e ↦ subst (λ x. Contains (x ∷ attrs) b) (same-attribute b a (sym (eqb-true a.0 b.0 e))) (contains-first b attrs)
  | inr m ↦ contains-later a b attrs (any-contains attrs b m)
]

pub contains-any : (attrs : List AttrId) (b : AttrId) → Contains attrs b → IsTrue (list_any (λ (a : AttrId). nat_eq a.0 b.0) attrs)
contains-any [] b m = absurd (contains-nil b m)
contains-any (a ∷ attrs) b m = elim (contains-cons a b attrs m) [
  | inl e ↦ left (nat_eq a.0 b.0) _ (eq-eqb a.0 b.0 (ap (λ (x : AttrId). x.0) e))
  | inr n ↦ right (nat_eq a.0 b.0) _ (contains-any attrs b n)
]

pub same-occurrence : (o p : Occ) → IsTrue (is_same_occ o p) → o ≡ p
same-occurrence o p h =
    let b = both (nat_eq o.occ p.occ) (nat_eq o.attr.0 p.attr.0) h in
    let k : o.occ ≡ p.occ = eqb-true _ _ b.0 in
    let a : o.attr.0 ≡ p.attr.0 = eqb-true _ _ b.1 in
    λ i. record { occ = k i; attr = record { 0 = a i } }

pub occurrence-same : (o p : Occ) → o ≡ p → IsTrue (is_same_occ o p)
occurrence-same o p e = together (nat_eq o.occ p.occ) (nat_eq o.attr.0 p.attr.0) (eq-eqb _ _ (ap (λ (x : Occ). x.occ) e)) (eq-eqb _ _ (ap (λ (x : Occ). x.attr.0) e))
