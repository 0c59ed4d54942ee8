-- Facts about each element of a list that is written out, element by element.
use Rattle.std.specs.Prelude.{All, AllPairs, Contains, slice_get, nat_eq, Bool, true, false, IsTrue, ◌&&◌}
use Rattle.std.specs.List.{AllByRecursion}
use Rattle.std.proofs.Common.{◌≡◌, ℕ, List, [], ◌∷◌, Some, refl, arith, ap, sym, ◌∙◌, true≢false, eq-eqb, eqb-true}
use Rattle.std.proofs.lemmas.List.Elements.{All-cons, All-nil, All-contains}
use Rattle.std.proofs.lemmas.List.Kept.{AllPairs-cons}
use Rattle.lido_base.specs.declared.ids.StrId.{StrId}
use Rattle.lido_base.specs.declared.kinds.Kind.TheVariants.{Synthesized, Inherited}
use Rattle.lido_base.specs.Tree.{Tree, rule_at}
use Rattle.flat_grammar.specs.declared.flat.Occ.{Occ}
use Rattle.flat_grammar.specs.declared.flat.FlatRule.{FlatRule}
use Rattle.flat_grammar.specs.Rules.{HasRule}
use Rattle.flat_grammar.specs.WellFormed.{is_same_occ, is_synthesized}
use Rattle.flat_grammar.proofs.Lists.{held}

pub all-of : {X : Type 0} (P : X → Type 0) (xs : List X) → AllByRecursion P xs → All P xs
all-of P [] h = All-nil P
all-of P (x ∷ xs) h = All-cons P x xs h.0 (all-of P xs h.1)

-- what each element of a list meets
pub each-of : {X : Type 0} (P : X → Type 0) (xs : List X) → AllByRecursion P xs → (x : X) → Contains xs x → P x
each-of P xs h x m = All-contains P xs x (all-of P xs h) m

abbrev pub PairsByRecursion : {X : Type 0} → (X → X → Type 0) → List X → Type 0
PairsByRecursion R [] = Unit {0}
PairsByRecursion R (x ∷ xs) = AllByRecursion (R x) xs × PairsByRecursion R xs

pub pairs-of : {X : Type 0} (R : X → X → Type 0) (xs : List X) → PairsByRecursion R xs → AllPairs R xs
pairs-of R [] h = λ i j d a b. absurd (omega (arith, b))
pairs-of R (x ∷ xs) h = AllPairs-cons R x xs (all-of (R x) xs h.0) (pairs-of R xs h.1)

pub never : {X : Type 0} → false ≡ true → X
never e = absurd (true≢false (sym e))

pub both : (a b : Bool) → IsTrue (a && b) → IsTrue a × IsTrue b
both true b h = (refl, h)
both false b h = never h

pub numbers-apart : (m n : ℕ) → nat_eq m n ≡ false → m ≡ n → ⊥
numbers-apart m n h e = never (sym h ∙ eq-eqb m n e)

pub names-apart : (a b : StrId) → nat_eq a.0 b.0 ≡ false → a ≡ b → ⊥
names-apart a b h e = numbers-apart a.0 b.0 h (ap (λ (s : StrId). s.0) e)

pub kinds-apart : Synthesized ≡ Inherited → ⊥
kinds-apart e = never (sym (ap is_synthesized e))

pub occurrences-apart : (a b : Occ) → is_same_occ a b ≡ false → a ≡ b → ⊥
occurrences-apart a b h e = never (sym h ∙ (ap (λ o. is_same_occ a o) (sym e) ∙ itself))
  where
    itself : is_same_occ a a ≡ true
    itself = rw (eq-eqb a.occ a.occ refl, eq-eqb a.attr.0 a.attr.0 refl) refl

pub same-occurrence : (a b : Occ) → is_same_occ a b ≡ true → a ≡ b
same-occurrence a b h =
    let p = both (nat_eq a.occ b.occ) (nat_eq a.attr.0 b.attr.0) h in
    let k : a.occ ≡ b.occ = eqb-true _ _ p.0 in
    let c : a.attr.0 ≡ b.attr.0 = eqb-true _ _ p.1 in
    λ i. record { occ = k i; attr = record { 0 = c i } }

-- the rule of a node is the one that stands at the node's number
pub rule-is : {V : Type 0} (rules : List FlatRule) (t : Tree V) (n i : ℕ) (r s : FlatRule) → rule_at t n ≡ Some i → slice_get rules i ≡ Some s → HasRule rules t n r → s ≡ r
rule-is rules t n i r s e f (j, g, h) = held (sym f ∙ (ap (λ k. slice_get rules k) (held (sym e ∙ g)) ∙ h))
