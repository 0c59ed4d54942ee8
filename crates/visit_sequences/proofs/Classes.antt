-- Each attribute of a symbol stands in a class of its visits, and the classes are ordered as the visits are.
use Rattle.std.specs.Prelude.{Contains, slice_get, option_and_then, is_some, IsSome, IsTrue, not, ◌*◌}
use Rattle.std.proofs.Common.{◌≡◌, ℕ, zero, suc, ◌<◌, ◌≤◌, ◌+◌, ◌-◌, ◌⊎◌, inl, inr, List, [], ◌∷◌, length, reverse, get_or, Option, Some, None, true≢false, refl, arith, ap, sym, subst, ◌∙◌}
use Rattle.std.proofs.lemmas.Bool.{cases_order}
use Rattle.std.proofs.lemmas.List.{get_or-reverse, length-reverse}
use Rattle.std.proofs.lemmas.Option.{slice_get_within, slice_get-get_or, get_or_from_slice_get, slice_get_cases}
use Rattle.std.proofs.lemmas.List.Elements.{All-contains}
use Rattle.lido_base.specs.declared.ids.SymId.{SymId}
use Rattle.lido_base.specs.declared.ids.AttrId.{AttrId}
use Rattle.lido_base.specs.declared.kinds.Kind.{Kind}
use Rattle.lido_base.specs.declared.kinds.Kind.TheVariants.{Synthesized, Inherited}
use Rattle.lido_base.specs.declared.value.ValueType.{ValueType}
use Rattle.flat_grammar.specs.declared.flat.FlatSymbol.{FlatSymbol}
use Rattle.flat_grammar.specs.declared.flat.FlatAttr.{FlatAttr}
use Rattle.flat_grammar.specs.declared.flat.FlatRule.{FlatRule}
use Rattle.flat_grammar.specs.declared.flat.Shape.{Shape}
use Rattle.flat_grammar.specs.declared.plan.VisitClass.{VisitClass}
use Rattle.flat_grammar.specs.Rules.{attribute_at}
use Rattle.flat_grammar.specs.WellFormed.{IsWellFormed, is_nonterminal, is_nonterminal_symbol}
use Rattle.flat_grammar.specs.Partition.{HasKind, IsPeeled, IsEarlier, IsClass, AreVisits, AreAllVisits, kind_of_class}
use Rattle.flat_grammar.proofs.Lists.{contains-nil, contains-cons, contains-first, contains-later, contains-slice_get}
use Rattle.flat_grammar.proofs.PartitionLemmas.{IsPeeled-grows, IsInClass-kind}
use Rattle.flat_grammar.proofs.PeelingLemmas.{even-kind, odd-kind}

pub value_in : {A : Type 0} (o : Option A) → IsSome o → (x : A) × (o ≡ Some x)
value_in None h = absurd (true≢false (sym h))
value_in (Some x) h = (x, refl)

pub some-is : {A : Type 0} (o : Option A) (x : A) → o ≡ Some x → IsSome o
some-is o x e = ap is_some e

-- a list holds the element, or not
pub contains-or : {X : Type 0} (xs : List X) (x : X) → ((y : X) → (y ≡ x) ⊎ (y ≡ x → ⊥)) → Contains xs x ⊎ (Contains xs x → ⊥)
contains-or [] x same = inr (λ m. contains-nil x m)
contains-or (y ∷ ys) x same = go (same y) (contains-or ys x same)
  where
    go : (y ≡ x) ⊎ (y ≡ x → ⊥) → Contains ys x ⊎ (Contains ys x → ⊥) → Contains (y ∷ ys) x ⊎ (Contains (y ∷ ys) x → ⊥)
    go (inl e) other = inl (subst (λ z. Contains (y ∷ ys) z) e (contains-first y ys))
    go (inr n) (inl k) = inl (contains-later y x ys k)
    go (inr n) (inr m) = inr (λ c. elim (contains-cons y x ys c) [ inl e ↦ n e | inr k ↦ m k ])

pub same_attribute-or : (a b : AttrId) → (a ≡ b) ⊎ (a ≡ b → ⊥)
same_attribute-or a b = elim (cases_order a.0 b.0) [
  | inl e ↦ inl (λ i. record { 0 = e i })
  | inr o ↦ inr (λ e. let f = ap (λ (x : AttrId). x.0) e in elim o [ inl l ↦ omega (arith, l, f) | inr g ↦ omega (arith, g, f) ])
]

slice_get-reverse : {X : Type 0} (xs : List X) (k j : ℕ) (x : X) → slice_get xs k ≡ Some x → j + suc k ≡ length xs → slice_get (reverse xs) j ≡ Some x
slice_get-reverse xs k j x e f =
    let within : j < length (reverse xs) = let l = length-reverse xs in omega (arith, f, l) in
    let place : length xs - 1 - j ≡ k = omega (arith, f) in
    let read = get_or_from_slice_get xs k x x e in
    slice_get-get_or (reverse xs) j x within ∙ ap Some (get_or-reverse xs j x (omega (arith, f)) ∙ (ap (λ n. get_or xs n x) place ∙ read))

odd-kind-next : (j : ℕ) → kind_of_class (2 * j + 1) ≡ Inherited
odd-kind-next j = let e : 2 * j + 1 ≡ suc (2 * j) = omega arith in ap kind_of_class e ∙ odd-kind j

module _ (symbols : List FlatSymbol) (rules : List FlatRule) where
  -- an attribute that is there stands at a nonterminal
  pub attribute-nonterminal : (shapes : List Shape) (root : SymId) → IsWellFormed symbols rules shapes root → (x : SymId) (a : AttrId) → IsSome (attribute_at symbols x a) → IsTrue (is_nonterminal symbols x)
  attribute-nonterminal shapes root w x a h = go (slice_get symbols x.0) refl h
    where
      bare : (s : FlatSymbol) (t : Option ValueType) → Contains symbols s → s.terminal ≡ t → IsSome (slice_get s.attrs a.0) → IsTrue (not (is_some t))
      bare s None m e f = refl
      bare s (Some ty) m e f =
          let none = All-contains (λ (y : FlatSymbol). IsTrue (is_some y.terminal) → y.attrs ≡ []) symbols s w.terminals_bare m (ap is_some e) in
          absurd (true≢false (sym (sym (ap (λ (xs : List FlatAttr). is_some (slice_get xs a.0)) none) ∙ f)))

      go : (o : Option FlatSymbol) → slice_get symbols x.0 ≡ o → IsSome (option_and_then (λ (y : FlatSymbol). slice_get y.attrs a.0) o) → IsTrue (is_nonterminal_symbol o)
      go None e f = absurd (true≢false (sym f))
      go (Some s) e f = bare s s.terminal (contains-slice_get symbols x.0 s e) refl f

  -- a nonterminal's row of visits
  pub row-there : (visits : List (List VisitClass)) → AreAllVisits symbols rules visits → (x : SymId) → IsTrue (is_nonterminal symbols x) → (row : List VisitClass) × (slice_get visits x.0 ≡ Some row) × AreVisits symbols rules x row
  row-there visits all x n = go (slice_get_cases visits x.0).1
    where
      within : x.0 < length symbols
      within = inside (slice_get symbols x.0) refl n
        where
          inside : (o : Option FlatSymbol) → slice_get symbols x.0 ≡ o → IsTrue (is_nonterminal_symbol o) → x.0 < length symbols
          inside None e f = absurd (true≢false (sym f))
          inside (Some s) e f = slice_get_within symbols x.0 s e

      go : ((row : List VisitClass) × (x.0 < length visits) × (slice_get visits x.0 ≡ Some row) × (get_or visits x.0 row ≡ row)) ⊎ ((length visits ≤ x.0) × (slice_get visits x.0 ≡ None))
          → (row : List VisitClass) × (slice_get visits x.0 ≡ Some row) × AreVisits symbols rules x row
      go (inl (row, l, e, f)) = (row, e, ((all.1 x row e).0 n))
      go (inr (l, e)) = absurd (let s = all.0 in let w = within in omega (arith, l, s, w))

  module _ (x : SymId) (row : List VisitClass) (are : AreVisits symbols rules x row) where
    -- the classes of a visit, by how many visits come behind it
    pub classes-of : (k : ℕ) (c : VisitClass) → slice_get row k ≡ Some c → (j : ℕ) × (j + suc k ≡ length row) × IsClass symbols rules x (2 * j) c.synthesized × IsClass symbols rules x (2 * j + 1) c.inherited
    classes-of k c e =
        let l = slice_get_within row k c e in
        let f : (length row - suc k) + suc k ≡ length row = omega (arith, l) in
        let h = are.classes (length row - suc k) c (slice_get-reverse row k (length row - suc k) c e f) in (length row - suc k, f, h.0, h.1)

    pub synthesized-kind : (k : ℕ) (c : VisitClass) (a : AttrId) → slice_get row k ≡ Some c → Contains c.synthesized a → HasKind symbols x Synthesized a
    synthesized-kind k c a e m = let h = classes-of k c e in
        subst (λ z. HasKind symbols x z a) (even-kind h.0) (IsInClass-kind symbols rules x (2 * h.0) a ((h.2.same a).0 m))

    pub inherited-kind : (k : ℕ) (c : VisitClass) (a : AttrId) → slice_get row k ≡ Some c → Contains c.inherited a → HasKind symbols x Inherited a
    inherited-kind k c a e m = let h = classes-of k c e in
        subst (λ z. HasKind symbols x z a) (odd-kind-next h.0) (IsInClass-kind symbols rules x (2 * h.0 + 1) a ((h.3.same a).0 m))

    kind-some : (kind : Kind) (a : AttrId) → HasKind symbols x kind a → IsSome (attribute_at symbols x a)
    kind-some kind a (attr, e, f) = some-is (attribute_at symbols x a) attr e

    -- what a visit inherits comes before what it or a later one synthesizes
    pub inherited-before : (k l : ℕ) (c d : VisitClass) (a b : AttrId) → slice_get row k ≡ Some c → slice_get row l ≡ Some d → k ≤ l → Contains c.inherited a → Contains d.synthesized b → IsEarlier symbols rules x a b
    inherited-before k l c d a b e f h m n =
        let p = classes-of k c e in let q = classes-of l d f in
        let u = (p.3.same a).0 m in let v = (q.2.same b).0 n in
        let s = p.1 in let t = q.1 in
        (kind-some Inherited a (inherited-kind k c a e m), (2 * p.0 + 1), IsPeeled-grows symbols rules x (2 * p.0 + 1) (suc (2 * q.0)) b (omega (arith, s, t, h)) v.0, u.1)

    -- what a visit synthesizes comes before what a later one inherits
    pub synthesized-before : (k l : ℕ) (c d : VisitClass) (a b : AttrId) → slice_get row k ≡ Some c → slice_get row l ≡ Some d → k < l → Contains c.synthesized a → Contains d.inherited b → IsEarlier symbols rules x a b
    synthesized-before k l c d a b e f h m n =
        let p = classes-of k c e in let q = classes-of l d f in
        let u = (p.2.same a).0 m in let v = (q.3.same b).0 n in
        let s = p.1 in let t = q.1 in
        (kind-some Synthesized a (synthesized-kind k c a e m), (2 * p.0), IsPeeled-grows symbols rules x (2 * p.0) (suc (2 * q.0 + 1)) b (omega (arith, s, t, h)) v.0, u.1)

    -- a visit that has the attribute
    abbrev pub Stands : AttrId → Type 0
    Stands a = (k : ℕ) × (c : VisitClass) × (slice_get row k ≡ Some c) × (Contains c.inherited a ⊎ Contains c.synthesized a)

    pub search-classes : (a : AttrId) (n : ℕ) → n ≤ length row → (Stands a × IsPeeled symbols rules x (2 * n) a) ⊎ (IsPeeled symbols rules x (2 * n) a → ⊥)
    search-classes a zero h = inr (λ p. p)
    search-classes a (suc n) h = go (search-classes a n (omega (arith, h)))
      where
        k : ℕ
        k = length row - suc n

        here : (c : VisitClass) → slice_get row k ≡ Some c → (IsPeeled symbols rules x (2 * n) a → ⊥) → (Stands a × IsPeeled symbols rules x (2 * suc n) a) ⊎ (IsPeeled symbols rules x (2 * suc n) a → ⊥)
        here c e below = pick (contains-or c.synthesized a (λ b. same_attribute-or b a)) (contains-or c.inherited a (λ b. same_attribute-or b a))
          where
            there : IsClass symbols rules x (2 * n) c.synthesized × IsClass symbols rules x (2 * n + 1) c.inherited
            there = let p = classes-of k c e in let s = p.1 in let f : p.0 ≡ n = omega (arith, s, h) in (subst (λ j. IsClass symbols rules x (2 * j) c.synthesized) f p.2, subst (λ j. IsClass symbols rules x (2 * j + 1) c.inherited) f p.3)

            pick : Contains c.synthesized a ⊎ (Contains c.synthesized a → ⊥) → Contains c.inherited a ⊎ (Contains c.inherited a → ⊥) → (Stands a × IsPeeled symbols rules x (2 * suc n) a) ⊎ (IsPeeled symbols rules x (2 * suc n) a → ⊥)
            pick (inl m) other = inl ((k, c, e, inr m), IsPeeled-grows symbols rules x (2 * suc n) (suc (2 * n)) a (omega arith) ((there.0.same a).0 m).0)
            pick (inr m) (inl i) = inl ((k, c, e, inl i), IsPeeled-grows symbols rules x (2 * suc n) (suc (2 * n + 1)) a (omega arith) ((there.1.same a).0 i).0)
            pick (inr m) (inr i) = inr (λ p.
                let one : IsPeeled symbols rules x (suc (2 * n)) a → ⊥ = λ q. m ((there.0.same a).1 (q, below)) in
                let step : 2 * n + 1 ≡ suc (2 * n) = omega arith in
                let two : IsPeeled symbols rules x (suc (2 * n + 1)) a → ⊥ = λ q. i ((there.1.same a).1 (q, (λ s. one (subst (λ j. IsPeeled symbols rules x j a) step s)))) in
                let last : 2 * suc n ≡ suc (2 * n + 1) = omega arith in
                two (subst (λ j. IsPeeled symbols rules x j a) last p))

        go : (Stands a × IsPeeled symbols rules x (2 * n) a) ⊎ (IsPeeled symbols rules x (2 * n) a → ⊥) → (Stands a × IsPeeled symbols rules x (2 * suc n) a) ⊎ (IsPeeled symbols rules x (2 * suc n) a → ⊥)
        go (inl s) = inl (s.0, IsPeeled-grows symbols rules x (2 * suc n) (2 * n) a (omega arith) s.1)
        go (inr below) = at (slice_get_cases row k).1
          where
            at : ((c : VisitClass) × (k < length row) × (slice_get row k ≡ Some c) × (get_or row k c ≡ c)) ⊎ ((length row ≤ k) × (slice_get row k ≡ None)) → (Stands a × IsPeeled symbols rules x (2 * suc n) a) ⊎ (IsPeeled symbols rules x (2 * suc n) a → ⊥)
            at (inl (c, l, e, f)) = here c e below
            at (inr (l, e)) = absurd (let s : k < length row = omega (arith, h) in omega (arith, l, s))

    -- each attribute of the symbol stands in a class
    pub stands : (a : AttrId) → IsSome (attribute_at symbols x a) → Stands a
    stands a h = elim (search-classes a (length row) (omega arith)) [ inl s ↦ s.0 | inr n ↦ absurd (n (are.all a h)) ]
