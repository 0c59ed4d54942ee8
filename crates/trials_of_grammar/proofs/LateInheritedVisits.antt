-- The visits of the late inherited attribute's symbols, peeled from the last class.
use Rattle.std.specs.Prelude.{Contains, IsTrue, IsFalse, IsSome, if◌then◌else◌, nat_eq, slice_get, reverse, is_some, ◌*◌}
use Rattle.std.specs.List.Sorted.{IsStrictlyIncreasing}
use Rattle.std.proofs.Common.{◌≡◌, ℕ, zero, suc, ◌+◌, ◌⊎◌, inl, inr, List, [], ◌∷◌, map, Some, None, refl, arith, ap, sym, subst, ◌∙◌}
use Rattle.std.proofs.lemmas.Option.{none-some}
use Rattle.lido_base.specs.declared.ids.AttrId.{AttrId}
use Rattle.lido_base.specs.declared.ids.SymId.{SymId}
use Rattle.lido_base.specs.declared.kinds.Kind.{Kind}
use Rattle.lido_base.specs.declared.kinds.Kind.TheVariants.{Synthesized, Inherited}
use Rattle.flat_grammar.specs.declared.flat.FlatAttr.{FlatAttr}
use Rattle.flat_grammar.specs.declared.flat.FlatRule.{FlatRule}
use Rattle.flat_grammar.specs.declared.flat.Occ.{Occ}
use Rattle.flat_grammar.specs.declared.plan.VisitClass.{VisitClass}
use Rattle.flat_grammar.specs.Rules.{attribute_at}
use Rattle.flat_grammar.specs.WellFormed.{is_nonterminal}
use Rattle.flat_grammar.specs.Dependencies.{IDS}
use Rattle.flat_grammar.specs.Partition.{kind_of_class, HasKind, IsClosedSet, IsPeeled, IsClass, IsEarlier, AreVisits, AreAllVisits, PeelsAll}
use Rattle.flat_grammar.proofs.Lists.{held, contains-first, contains-later, contains-cons, contains-nil}
use Rattle.flat_grammar.proofs.PartitionLemmas.{IsPeeled-grows}
use Rattle.trials_of_grammar.specs.ListOfItems.{symbol}
use Rattle.trials_of_grammar.specs.LateInherited.{attribute, v_attribute, i_attribute, out_attribute, symbols, S_v, S_out, B_v, rules, visits}
use Rattle.trials_of_grammar.proofs.Finite.{never, each-of, numbers-apart, kinds-apart}
use Rattle.trials_of_grammar.proofs.TestedDependencies.{dependencies-tested}

abbrev edges : FlatRule → List (Occ × Occ)
edges r = if nat_eq r.name.0 10 then (B_v, S_v) ∷ (S_v, S_out) ∷ (B_v, S_out) ∷ [] else []

abbrev pairs : SymId → List (ℕ × ℕ)
pairs x = if nat_eq x.0 0 then (0, 1) ∷ [] else []

abbrev pair : ℕ → ℕ → ℕ × ℕ
pair a b = (a, b)

-- S.v comes before S.$out, and nothing else is induced
pub induced-pairs : (x : SymId) (a b : AttrId) → IDS rules x a b → Contains (pairs x) (pair a.0 b.0)
induced-pairs = dependencies-tested edges pairs rules (
  record { direct = refl; induced = refl; transitive = refl; projected = refl },
  (
    record { direct = refl; induced = refl; transitive = refl; projected = refl },
    (record { direct = refl; induced = refl; transitive = refl; projected = refl }, tt),
  ),
)

pub S-pair : (a b : AttrId) → IDS rules (symbol 0) a b → (a.0 ≡ 0) × (b.0 ≡ 1)
S-pair a b h = go (contains-cons (pair 0 1) (pair a.0 b.0) [] (induced-pairs (symbol 0) a b h))
  where
    go : (pair 0 1 ≡ pair a.0 b.0) ⊎ Contains [] (pair a.0 b.0) → (a.0 ≡ 0) × (b.0 ≡ 1)
    go (inl e) = (sym (ap (λ (p : ℕ × ℕ). p.0) e), sym (ap (λ (p : ℕ × ℕ). p.1) e))
    go (inr k) = absurd (contains-nil (pair a.0 b.0) k)

pub A-none : (a b : AttrId) → IDS rules (symbol 1) a b → ⊥
A-none a b h = contains-nil (pair a.0 b.0) (induced-pairs (symbol 1) a b h)

pub B-none : (a b : AttrId) → IDS rules (symbol 2) a b → ⊥
B-none a b h = contains-nil (pair a.0 b.0) (induced-pairs (symbol 2) a b h)

abbrev Peeled : SymId → ℕ → AttrId → Type 0
Peeled x k a = IsPeeled symbols rules x k a

-- a closed set of what isn't peeled, with all of its kind that isn't, is the class
class-is : (x : SymId) (k : ℕ) (xs : List AttrId) → IsClosedSet symbols rules x (Peeled x k) (kind_of_class k) xs → ((a : AttrId) → Contains xs a → ¬ Peeled x k a)
    → ((a : AttrId) → HasKind symbols x (kind_of_class k) a → Contains xs a) → IsStrictlyIncreasing (map (λ (a : AttrId). a.0) xs) → IsClass symbols rules x k xs
class-is x k xs closed new whole ascends = record { same = λ a. (λ m. (inr (xs, m, closed), new a m), λ p. go a p.0 p.1); ascending = ascends }
  where
    go : (a : AttrId) → Peeled x (suc k) a → ¬ Peeled x k a → Contains xs a
    go a (inl q) n = absurd (n q)
    go a (inr (set, m, c)) n = whole a (c a m).0

ascends-none : IsStrictlyIncreasing []
ascends-none k h = absurd (omega (arith, h))

ascends-one : (n : ℕ) → IsStrictlyIncreasing (n ∷ [])
ascends-one n k h = absurd (omega (arith, h))

ascends-two : IsStrictlyIncreasing (0 ∷ 1 ∷ [])
ascends-two zero h = omega arith
ascends-two (suc k) h = absurd (omega (arith, h))

abbrev Kind-of : SymId → Kind → AttrId → Type 0
Kind-of x kind a = HasKind symbols x kind a

-- which attributes are of which kind
wrong-kind : (x : SymId) (a : AttrId) (attr : FlatAttr) → attribute_at symbols x a ≡ Some attr → attr.kind ≡ Synthesized → Kind-of x Inherited a → ⊥
wrong-kind x a attr at synthesized (other, e, k) = kinds-apart (sym synthesized ∙ (ap (λ (b : FlatAttr). b.kind) (held (sym at ∙ e)) ∙ k))

other-kind : (x : SymId) (a : AttrId) (attr : FlatAttr) → attribute_at symbols x a ≡ Some attr → attr.kind ≡ Inherited → Kind-of x Synthesized a → ⊥
other-kind x a attr at inherited (other, e, k) = kinds-apart (sym k ∙ (ap (λ (b : FlatAttr). b.kind) (held (sym e ∙ at)) ∙ inherited))

S-synthesized : (n : ℕ) → Kind-of (symbol 0) Synthesized (attribute n) → Contains (attribute 0 ∷ attribute 1 ∷ []) (attribute n)
S-synthesized zero h = contains-first (attribute 0) (attribute 1 ∷ [])
S-synthesized (suc zero) h = contains-later (attribute 0) (attribute 1) (attribute 1 ∷ []) (contains-first (attribute 1) [])
S-synthesized (suc (suc n)) h = absurd (none-some _ h.1)

S-inherited : (n : ℕ) → Kind-of (symbol 0) Inherited (attribute n) → ⊥
S-inherited zero h = wrong-kind (symbol 0) (attribute 0) v_attribute refl refl h
S-inherited (suc zero) h = wrong-kind (symbol 0) (attribute 1) out_attribute refl refl h
S-inherited (suc (suc n)) h = none-some _ h.1

A-synthesized : (n : ℕ) → Kind-of (symbol 1) Synthesized (attribute n) → ⊥
A-synthesized zero h = other-kind (symbol 1) (attribute 0) i_attribute refl refl h
A-synthesized (suc n) h = none-some _ h.1

A-inherited : (n : ℕ) → Kind-of (symbol 1) Inherited (attribute n) → Contains (attribute 0 ∷ []) (attribute n)
A-inherited zero h = contains-first (attribute 0) []
A-inherited (suc n) h = absurd (none-some _ h.1)

B-synthesized : (n : ℕ) → Kind-of (symbol 2) Synthesized (attribute n) → Contains (attribute 0 ∷ []) (attribute n)
B-synthesized zero h = contains-first (attribute 0) []
B-synthesized (suc n) h = absurd (none-some _ h.1)

B-inherited : (n : ℕ) → Kind-of (symbol 2) Inherited (attribute n) → ⊥
B-inherited zero h = wrong-kind (symbol 2) (attribute 0) v_attribute refl refl h
B-inherited (suc n) h = none-some _ h.1

-- the classes, as closed sets
abbrev Member : SymId → ℕ → List AttrId → AttrId → Type 0
Member x k xs a = Kind-of x (kind_of_class k) a × ((b : AttrId) → IDS rules x a b → Peeled x k b ⊎ Contains xs b)

out-in : (b : AttrId) → b.0 ≡ 1 → Contains (attribute 0 ∷ attribute 1 ∷ []) b
out-in b e = let same : attribute 1 ≡ b = λ i. record { 0 = sym e i } in
    subst (λ c. Contains (attribute 0 ∷ attribute 1 ∷ []) c) same (contains-later (attribute 0) (attribute 1) (attribute 1 ∷ []) (contains-first (attribute 1) []))

S-closed : IsClosedSet symbols rules (symbol 0) (Peeled (symbol 0) 0) Synthesized (attribute 0 ∷ attribute 1 ∷ [])
S-closed = each-of (Member (symbol 0) 0 (attribute 0 ∷ attribute 1 ∷ [])) (attribute 0 ∷ attribute 1 ∷ []) (
  ((v_attribute, refl, refl), λ b h. inr (out-in b (S-pair (attribute 0) b h).1)),
  (((out_attribute, refl, refl), λ b h. absurd (numbers-apart 1 0 refl (S-pair (attribute 1) b h).0)), tt),
)

A-closed : IsClosedSet symbols rules (symbol 1) (Peeled (symbol 1) 1) Inherited (attribute 0 ∷ [])
A-closed = each-of (Member (symbol 1) 1 (attribute 0 ∷ [])) (attribute 0 ∷ []) (((i_attribute, refl, refl), λ b h. absurd (A-none (attribute 0) b h)), tt)

B-closed : IsClosedSet symbols rules (symbol 2) (Peeled (symbol 2) 0) Synthesized (attribute 0 ∷ [])
B-closed = each-of (Member (symbol 2) 0 (attribute 0 ∷ [])) (attribute 0 ∷ []) (((v_attribute, refl, refl), λ b h. absurd (B-none (attribute 0) b h)), tt)

nothing-closed : (x : SymId) (k : ℕ) (kind : Kind) → IsClosedSet symbols rules x (Peeled x k) kind []
nothing-closed x k kind a m = absurd (contains-nil a m)

nothing-new : (x : SymId) (k : ℕ) (a : AttrId) → Contains [] a → ¬ Peeled x k a
nothing-new x k a m = absurd (contains-nil a m)

A-not-peeled : (a : AttrId) → Peeled (symbol 1) 1 a → ⊥
A-not-peeled a (inl h) = h
A-not-peeled a (inr (set, m, c)) = A-synthesized a.0 (c a m).0

S-last : IsClass symbols rules (symbol 0) 0 (attribute 0 ∷ attribute 1 ∷ [])
S-last = class-is (symbol 0) 0 (attribute 0 ∷ attribute 1 ∷ []) S-closed (λ a m p. p) (λ a h. S-synthesized a.0 h) ascends-two

S-before : IsClass symbols rules (symbol 0) 1 []
S-before = class-is (symbol 0) 1 [] (nothing-closed (symbol 0) 1 Inherited) (nothing-new (symbol 0) 1) (λ a h. absurd (S-inherited a.0 h)) ascends-none

A-last : IsClass symbols rules (symbol 1) 0 []
A-last = class-is (symbol 1) 0 [] (nothing-closed (symbol 1) 0 Synthesized) (nothing-new (symbol 1) 0) (λ a h. absurd (A-synthesized a.0 h)) ascends-none

A-before : IsClass symbols rules (symbol 1) 1 (attribute 0 ∷ [])
A-before = class-is (symbol 1) 1 (attribute 0 ∷ []) A-closed (λ a m p. A-not-peeled a p) (λ a h. A-inherited a.0 h) (ascends-one 0)

B-last : IsClass symbols rules (symbol 2) 0 (attribute 0 ∷ [])
B-last = class-is (symbol 2) 0 (attribute 0 ∷ []) B-closed (λ a m p. p) (λ a h. B-synthesized a.0 h) (ascends-one 0)

B-before : IsClass symbols rules (symbol 2) 1 []
B-before = class-is (symbol 2) 1 [] (nothing-closed (symbol 2) 1 Inherited) (nothing-new (symbol 2) 1) (λ a h. absurd (B-inherited a.0 h)) ascends-none

pub S-peeled : (n : ℕ) → IsSome (attribute_at symbols (symbol 0) (attribute n)) → Peeled (symbol 0) 1 (attribute n)
S-peeled zero h = inr (attribute 0 ∷ attribute 1 ∷ [], contains-first (attribute 0) (attribute 1 ∷ []), S-closed)
S-peeled (suc zero) h = inr (attribute 0 ∷ attribute 1 ∷ [], contains-later (attribute 0) (attribute 1) (attribute 1 ∷ []) (contains-first (attribute 1) []), S-closed)
S-peeled (suc (suc n)) h = never h

A-peeled : (n : ℕ) → IsSome (attribute_at symbols (symbol 1) (attribute n)) → Peeled (symbol 1) 2 (attribute n)
A-peeled zero h = inr (attribute 0 ∷ [], contains-first (attribute 0) [], A-closed)
A-peeled (suc n) h = never h

B-peeled : (n : ℕ) → IsSome (attribute_at symbols (symbol 2) (attribute n)) → Peeled (symbol 2) 1 (attribute n)
B-peeled zero h = inr (attribute 0 ∷ [], contains-first (attribute 0) [], B-closed)
B-peeled (suc n) h = never h

-- the visits of a symbol that has one
one-visit : (x : SymId) (c : VisitClass) → IsClass symbols rules x 0 c.synthesized → IsClass symbols rules x 1 c.inherited → PeelsAll symbols rules x 2 → AreVisits symbols rules x (c ∷ [])
one-visit x c last before all = record { classes = classes; all = all; fewest = λ k p l. omega (arith, l); one = omega arith }
  where
    classes : (k : ℕ) (d : VisitClass) → slice_get (reverse (c ∷ [])) k ≡ Some d → IsClass symbols rules x (2 * k) d.synthesized × IsClass symbols rules x (2 * k + 1) d.inherited
    classes zero d e = (subst (λ b. IsClass symbols rules x 0 b.synthesized) (held e) last, subst (λ b. IsClass symbols rules x 1 b.inherited) (held e) before)
    classes (suc k) d e = absurd (none-some _ e)

abbrev Visited : ℕ → List VisitClass → Type 0
Visited n row = (IsTrue (is_nonterminal symbols (symbol n)) → AreVisits symbols rules (symbol n) row) × (IsFalse (is_nonterminal symbols (symbol n)) → row ≡ [])

each-symbol : (n : ℕ) (row : List VisitClass) → slice_get visits n ≡ Some row → Visited n row
each-symbol zero row e = subst (λ r. Visited 0 r) (held e) (λ h. one-visit (symbol 0) _ S-last S-before (λ a s. inl (S-peeled a.0 s)), λ h. never (sym h))
each-symbol (suc zero) row e = subst (λ r. Visited 1 r) (held e) (λ h. one-visit (symbol 1) _ A-last A-before (λ a s. A-peeled a.0 s), λ h. never (sym h))
each-symbol (suc (suc zero)) row e = subst (λ r. Visited 2 r) (held e) (λ h. one-visit (symbol 2) _ B-last B-before (λ a s. inl (B-peeled a.0 s)), λ h. never (sym h))
each-symbol (suc (suc (suc n))) row e = absurd (none-some _ e)

pub all-visits : AreAllVisits symbols rules visits
all-visits = (refl, λ x row e. each-symbol x.0 row e)

-- what is peeled is an attribute
peeled-attribute : (x : SymId) (k : ℕ) (a : AttrId) → Peeled x k a → (attr : FlatAttr) × (attribute_at symbols x a ≡ Some attr)
peeled-attribute x zero a h = absurd h
peeled-attribute x (suc k) a (inl h) = peeled-attribute x k a h
peeled-attribute x (suc k) a (inr (set, m, c)) = let p = (c a m).0 in (p.0, p.1)

-- no attribute is in an earlier class than another of its symbol
S-not-earlier : (a b : AttrId) → IsEarlier symbols rules (symbol 0) a b → ⊥
S-not-earlier a b (some, zero, p, n) = p
S-not-earlier a b (some, suc k, p, n) = n (IsPeeled-grows symbols rules (symbol 0) (suc k) 1 a (omega arith) (S-peeled a.0 some))

only-one : (x : SymId) (first : FlatAttr) → ((n : ℕ) → attribute_at symbols x (attribute (suc n)) ≡ None) → (a b : AttrId) → IsEarlier symbols rules x a b → ⊥
only-one x first none a b (some, k, p, n) = go a.0 b.0 some (peeled-attribute x k b p) p n
  where
    go : (i j : ℕ) → IsSome (attribute_at symbols x (attribute i)) → (attr : FlatAttr) × (attribute_at symbols x (attribute j) ≡ Some attr) → Peeled x k (attribute j) → ¬ Peeled x k (attribute i) → ⊥
    go zero zero s q p n = n p
    go zero (suc j) s q p n = none-some _ (sym (none j) ∙ q.1)
    go (suc i) j s q p n = never (ap is_some (sym (none i)) ∙ s)

pub not-earlier : (i : ℕ) (a b : AttrId) → IsEarlier symbols rules (symbol i) a b → ⊥
not-earlier zero a b h = S-not-earlier a b h
not-earlier (suc zero) a b h = only-one (symbol 1) i_attribute (λ n. refl) a b h
not-earlier (suc (suc zero)) a b h = only-one (symbol 2) v_attribute (λ n. refl) a b h
not-earlier (suc (suc (suc i))) a b h = never h.0
