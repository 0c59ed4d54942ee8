-- What comes before an attribute, by the classes that pass and by the rows of induced dependencies.
use Rattle.std.specs.Prelude.{All, Contains, slice_get, IsSome, IsBitSet, option_map, option_and_then, ◌*◌, ◌↔◌}
use Rattle.std.proofs.Common.{◌≡◌, ℕ, suc, ◌<◌, ◌≤◌, ◌+◌, ◌⊎◌, inl, inr, List, [], length, get_or, Option, Some, None, true≢false, refl, arith, ap, sym, subst, ◌∙◌}
use Rattle.std.proofs.lemmas.Bool.{cases_order, cases_lt}
use Rattle.std.proofs.lemmas.Option.{none-some, slice_get_within, slice_get_cases, slice_get-map}
use Rattle.std.proofs.lemmas.List.Elements.{All-contains}
use Rattle.lido_base.specs.declared.ids.SymId.{SymId}
use Rattle.lido_base.specs.declared.ids.AttrId.{AttrId}
use Rattle.flat_grammar.specs.declared.flat.Occ.{Occ}
use Rattle.flat_grammar.specs.declared.flat.FlatSymbol.{FlatSymbol}
use Rattle.flat_grammar.specs.declared.flat.FlatRule.{FlatRule}
use Rattle.flat_grammar.specs.declared.flat.Shape.{Shape}
use Rattle.flat_grammar.specs.declared.plan.VisitClass.{VisitClass}
use Rattle.flat_grammar.specs.Rules.{attribute_at, symbol_at, dependencies}
use Rattle.flat_grammar.specs.WellFormed.{IsWellFormed, IsRule, attribute_of}
use Rattle.flat_grammar.specs.declared.flat.FlatComp.{FlatComp}
use Rattle.std.proofs.lemmas.List.{get_or_default}
use Rattle.flat_grammar.specs.Dependencies.{DP, IDS, AreInducedRows}
use Rattle.flat_grammar.specs.Partition.{IsInClass, IsEarlier, AreVisits, AreAllVisits}
use Rattle.flat_grammar.proofs.Lists.{held, contains-slice_get}
use Rattle.flat_grammar.proofs.PartitionLemmas.{IsPeeled-grows}
use Rattle.visit_sequences.specs.Steps.{visits_there, LacksBefore, PassedBefore, StandsBefore, IsBefore}
use Rattle.visit_sequences.proofs.Classes.{value_in, some-is, attribute-nonterminal, row-there, classes-of, stands, synthesized-kind, inherited-kind}
use Rattle.visit_sequences.proofs.Occurrences.{symbol-there, IDS-attribute}

module _ (row : List VisitClass) (b : AttrId) where
  lacks-more : (k : ℕ) (c : VisitClass) → slice_get row k ≡ Some c → LacksBefore row k b → (Contains c.inherited b → ⊥) → (Contains c.synthesized b → ⊥) → LacksBefore row (k + 1) b
  lacks-more k c e lacks n m l d h f = elim (cases_lt l k) [
    | inl i ↦ lacks l d i f
    | inr g ↦ (let place : l ≡ k = omega (arith, g, h) in let same : d ≡ c = held (sym f ∙ (ap (λ i. slice_get row i) place ∙ e)) in
        ((λ i. n (subst (λ (z : VisitClass). Contains z.inherited b) same i)), (λ i. m (subst (λ (z : VisitClass). Contains z.synthesized b) same i))))
  ]

  passed-more : (k : ℕ) (c : VisitClass) (a : AttrId) → slice_get row k ≡ Some c → PassedBefore row k a ⊎ (Contains c.inherited a ⊎ Contains c.synthesized a) → PassedBefore row (k + 1) a
  passed-more k c a e (inl (j, d, l, f, m)) = (j, d, (omega (arith, l)), f, m)
  passed-more k c a e (inr m) = (k, c, (omega arith), e, m)

  passed-cases : (k : ℕ) (c : VisitClass) (a : AttrId) → slice_get row k ≡ Some c → PassedBefore row (k + 1) a → PassedBefore row k a ⊎ (Contains c.inherited a ⊎ Contains c.synthesized a)
  passed-cases k c a e (j, d, l, f, m) = elim (cases_lt j k) [
    | inl i ↦ inl (j, d, i, f, m)
    | inr g ↦ (let place : j ≡ k = omega (arith, g, l) in let same : d ≡ c = held (sym f ∙ (ap (λ i. slice_get row i) place ∙ e)) in
        inr (subst (λ (z : VisitClass). Contains z.inherited a ⊎ Contains z.synthesized a) same m))
  ]

  passed-stands : (k : ℕ) (a : AttrId) → LacksBefore row k b → PassedBefore row k a → StandsBefore row a b
  passed-stands k a lacks (j, d, l, f, inl m) = (j, d, f, (λ i x h g. lacks i x (omega (arith, h, l)) g), inl (m, (lacks j d l f).0))
  passed-stands k a lacks (j, d, l, f, inr m) = (j, d, f, (λ i x h g. lacks i x (omega (arith, h, l)) g), inr (m, (lacks j d l f).0, (lacks j d l f).1))

  -- the class that has the attribute inherits it
  at-inherited : (k : ℕ) (c : VisitClass) → slice_get row k ≡ Some c → LacksBefore row k b → Contains c.inherited b → (a : AttrId) → PassedBefore row k a ↔ StandsBefore row a b
  at-inherited k c e lacks here a = ((λ p. passed-stands k a lacks p), back)
    where
      back : StandsBefore row a b → PassedBefore row k a
      back (j, d, f, lacks', m) = go (cases_order j k) m
        where
          same : j ≡ k → d ≡ c
          same place = held (sym f ∙ (ap (λ i. slice_get row i) place ∙ e))

          go : (j ≡ k) ⊎ ((j < k) ⊎ (k < j)) → ((Contains d.inherited a × (Contains d.inherited b → ⊥)) ⊎ (Contains d.synthesized a × (Contains d.inherited b → ⊥) × (Contains d.synthesized b → ⊥))) → PassedBefore row k a
          go (inr (inl l)) (inl p) = (j, d, l, f, inl p.0)
          go (inr (inl l)) (inr q) = (j, d, l, f, inr q.0)
          go (inr (inr g)) other = absurd ((lacks' k c g e).0 here)
          go (inl place) (inl p) = absurd (p.1 (subst (λ (z : VisitClass). Contains z.inherited b) (sym (same place)) here))
          go (inl place) (inr q) = absurd (q.1 (subst (λ (z : VisitClass). Contains z.inherited b) (sym (same place)) here))

  -- the class that has the attribute synthesizes it
  at-synthesized : (k : ℕ) (c : VisitClass) → slice_get row k ≡ Some c → LacksBefore row k b → (Contains c.inherited b → ⊥) → Contains c.synthesized b → (a : AttrId)
      → (PassedBefore row k a ⊎ Contains c.inherited a) ↔ StandsBefore row a b
  at-synthesized k c e lacks none here a = (forth, back)
    where
      forth : PassedBefore row k a ⊎ Contains c.inherited a → StandsBefore row a b
      forth (inl p) = passed-stands k a lacks p
      forth (inr m) = (k, c, e, lacks, inl (m, none))

      back : StandsBefore row a b → PassedBefore row k a ⊎ Contains c.inherited a
      back (j, d, f, lacks', m) = go (cases_order j k) m
        where
          same : j ≡ k → d ≡ c
          same place = held (sym f ∙ (ap (λ i. slice_get row i) place ∙ e))

          go : (j ≡ k) ⊎ ((j < k) ⊎ (k < j)) → ((Contains d.inherited a × (Contains d.inherited b → ⊥)) ⊎ (Contains d.synthesized a × (Contains d.inherited b → ⊥) × (Contains d.synthesized b → ⊥)))
              → PassedBefore row k a ⊎ Contains c.inherited a
          go (inr (inl l)) (inl p) = inl (j, d, l, f, inl p.0)
          go (inr (inl l)) (inr q) = inl (j, d, l, f, inr q.0)
          go (inr (inr g)) other = absurd ((lacks' k c g e).1 here)
          go (inl place) (inl p) = inr (subst (λ (z : VisitClass). Contains z.inherited a) (same place) p.0)
          go (inl place) (inr q) = absurd (q.2 (subst (λ (z : VisitClass). Contains z.synthesized b) (sym (same place)) here))

  -- no class has the attribute
  at-end : (k : ℕ) → length row ≤ k → LacksBefore row k b → (a : AttrId) → PassedBefore row k a ↔ StandsBefore row a b
  at-end k h lacks a = ((λ p. passed-stands k a lacks p), back)
    where
      back : StandsBefore row a b → PassedBefore row k a
      back (j, d, f, lacks', inl p) = let l = slice_get_within row j d f in (j, d, (omega (arith, l, h)), f, inl p.0)
      back (j, d, f, lacks', inr q) = let l = slice_get_within row j d f in (j, d, (omega (arith, l, h)), f, inr q.0)

  -- the sets of the classes
  abbrev pub HasPassed : ℕ → ℕ → Type 0
  HasPassed k set = (a : AttrId) → IsBitSet set a.0 ↔ ((a.0 < 256) × PassedBefore row k a)

  abbrev pub HasMembers : List AttrId → ℕ → Type 0
  HasMembers attrs set = (a : AttrId) → IsBitSet set a.0 ↔ ((a.0 < 256) × Contains attrs a)

  abbrev pub IsUnion : ℕ → ℕ → ℕ → Type 0
  IsUnion set more both = (j : ℕ) → IsBitSet both j ↔ (IsBitSet set j ⊎ IsBitSet more j)

  pub inherited-return : (k : ℕ) (c : VisitClass) (set inherited : ℕ) → b.0 < 256 → slice_get row k ≡ Some c → LacksBefore row k b → HasPassed k set → HasMembers c.inherited inherited → IsBitSet inherited b.0
      → (a : AttrId) → IsBitSet set a.0 ↔ ((a.0 < 256) × StandsBefore row a b)
  inherited-return k c set inherited few e lacks has members bit a =
      let same = at-inherited k c e lacks ((members b).0 bit).1 a in
      ((λ h. let p = (has a).0 h in (p.0, same.0 p.1)), (λ q. (has a).1 (q.0, same.1 q.1)))

  pub synthesized-return : (k : ℕ) (c : VisitClass) (set inherited both synthesized : ℕ) → b.0 < 256 → slice_get row k ≡ Some c → LacksBefore row k b → HasPassed k set → HasMembers c.inherited inherited
      → (IsBitSet inherited b.0 → ⊥) → IsUnion set inherited both → HasMembers c.synthesized synthesized → IsBitSet synthesized b.0 → (a : AttrId) → IsBitSet both a.0 ↔ ((a.0 < 256) × StandsBefore row a b)
  synthesized-return k c set inherited both synthesized few e lacks has members none union more bit a =
      let same = at-synthesized k c e lacks (λ m. none ((members b).1 (few, m))) ((more b).0 bit).1 a in (
        (λ h. elim ((union a.0).0 h) [ inl i ↦ (let p = (has a).0 i in (p.0, same.0 (inl p.1))) | inr j ↦ (let p = (members a).0 j in (p.0, same.0 (inr p.1))) ]),
        (λ q. (union a.0).1 (elim (same.1 q.1) [ inl p ↦ inl ((has a).1 (q.0, p)) | inr m ↦ inr ((members a).1 (q.0, m)) ])),
      )

  pub next-lacks : (k : ℕ) (c : VisitClass) (inherited synthesized : ℕ) → b.0 < 256 → slice_get row k ≡ Some c → LacksBefore row k b → HasMembers c.inherited inherited → (IsBitSet inherited b.0 → ⊥) → HasMembers c.synthesized synthesized
      → (IsBitSet synthesized b.0 → ⊥) → LacksBefore row (k + 1) b
  next-lacks k c inherited synthesized few e lacks members none more neither = lacks-more k c e lacks (λ m. none ((members b).1 (few, m))) (λ m. neither ((more b).1 (few, m)))

  pub next-passed : (k : ℕ) (c : VisitClass) (set inherited both synthesized next : ℕ) → slice_get row k ≡ Some c → HasPassed k set → HasMembers c.inherited inherited → IsUnion set inherited both
      → HasMembers c.synthesized synthesized → IsUnion both synthesized next → HasPassed (k + 1) next
  next-passed k c set inherited both synthesized next e has members union more union' a = (
    (λ h. elim ((union' a.0).0 h) [
      | inl i ↦ elim ((union a.0).0 i) [
        | inl j ↦ (let p = (has a).0 j in (p.0, passed-more k c a e (inl p.1)))
        | inr j ↦ (let p = (members a).0 j in (p.0, passed-more k c a e (inr (inl p.1))))
      ]
      | inr i ↦ (let p = (more a).0 i in (p.0, passed-more k c a e (inr (inr p.1))))
    ]),
    (λ q. (union' a.0).1 (elim (passed-cases k c a e q.1) [
      | inl p ↦ inl ((union a.0).1 (inl ((has a).1 (q.0, p))))
      | inr m ↦ elim m [ inl i ↦ inl ((union a.0).1 (inr ((members a).1 (q.0, i)))) | inr j ↦ inr ((more a).1 (q.0, j)) ]
    ])),
  )

  pub end-return : (k : ℕ) (set : ℕ) → length row ≤ k → LacksBefore row k b → HasPassed k set → (a : AttrId) → IsBitSet set a.0 ↔ ((a.0 < 256) × StandsBefore row a b)
  end-return k set h lacks has a = let same = at-end k h lacks a in ((λ i. let p = (has a).0 i in (p.0, same.0 p.1)), (λ q. (has a).1 (q.0, same.1 q.1)))

module _ (symbols : List FlatSymbol) (rules : List FlatRule) (x : SymId) where
  later-class : (n m : ℕ) (a b : AttrId) → IsInClass symbols rules x n a → IsInClass symbols rules x m b → m < n → IsSome (attribute_at symbols x a) → IsEarlier symbols rules x a b
  later-class n m a b p q h some = (some, n, IsPeeled-grows symbols rules x n (suc m) b h q.0, p.1)

  not-earlier : (n m : ℕ) (a b : AttrId) → IsInClass symbols rules x n a → IsInClass symbols rules x m b → n ≤ m → IsEarlier symbols rules x a b → ⊥
  not-earlier n m a b p q h (some, k, peeled, left) = elim (cases_lt m k) [
    | inl l ↦ left (IsPeeled-grows symbols rules x k (suc n) a (omega (arith, l, h)) p.0)
    | inr g ↦ q.1 (IsPeeled-grows symbols rules x m k b g peeled)
  ]

  module _ (row : List VisitClass) (are : AreVisits symbols rules x row) where
    -- the class of what a visit inherits or synthesizes, by how many visits come behind it
    inherited-class : (k : ℕ) (c : VisitClass) (a : AttrId) → slice_get row k ≡ Some c → Contains c.inherited a → (j : ℕ) × (j + suc k ≡ length row) × IsInClass symbols rules x (2 * j + 1) a
    inherited-class k c a e m = let p = classes-of symbols rules x row are k c e in (p.0, p.1, (p.3.same a).0 m)

    synthesized-class : (k : ℕ) (c : VisitClass) (a : AttrId) → slice_get row k ≡ Some c → Contains c.synthesized a → (j : ℕ) × (j + suc k ≡ length row) × IsInClass symbols rules x (2 * j) a
    synthesized-class k c a e m = let p = classes-of symbols rules x row are k c e in (p.0, p.1, (p.2.same a).0 m)

    -- the class of an attribute that stands in a visit
    any-class : (k : ℕ) (c : VisitClass) (a : AttrId) → slice_get row k ≡ Some c → (Contains c.inherited a ⊎ Contains c.synthesized a) → (j : ℕ) × (j + suc k ≡ length row) × (n : ℕ) × (2 * j ≤ n) × (n ≤ 2 * j + 1) × IsInClass symbols rules x n a
    any-class k c a e (inl m) = let p = inherited-class k c a e m in (p.0, p.1, (2 * p.0 + 1), (omega arith), (omega arith), p.2)
    any-class k c a e (inr m) = let p = synthesized-class k c a e m in (p.0, p.1, (2 * p.0), (omega arith), (omega arith), p.2)

    -- what stands before is not later
    no-earlier-place : (k l : ℕ) (c d : VisitClass) (a b : AttrId) → slice_get row k ≡ Some c → slice_get row l ≡ Some d → l < k → (Contains c.inherited a ⊎ Contains c.synthesized a) → (Contains d.inherited b ⊎ Contains d.synthesized b)
        → IsEarlier symbols rules x a b → ⊥
    no-earlier-place k l c d a b e f h m n early =
        let p = any-class k c a e m in let q = any-class l d b f n in
        let s = p.1 in let t = q.1 in let u = p.4 in let v = q.3 in
        not-earlier p.2 q.2 a b p.5 q.5 (omega (arith, s, t, u, v, h)) early

    pub earlier-is : (a b : AttrId) → IsSome (attribute_at symbols x b) → IsEarlier symbols rules x a b ↔ StandsBefore row a b
    earlier-is a b some = (forth, back)
      where
        forth : IsEarlier symbols rules x a b → StandsBefore row a b
        forth early = go (stands symbols rules x row are a early.0)
          where
            lacks : (k : ℕ) (c : VisitClass) → slice_get row k ≡ Some c → (Contains c.inherited a ⊎ Contains c.synthesized a) → LacksBefore row k b
            lacks k c e m l d h f = ((λ n. no-earlier-place k l c d a b e f h m (inl n) early), (λ n. no-earlier-place k l c d a b e f h m (inr n) early))

            go : (k : ℕ) × (c : VisitClass) × (slice_get row k ≡ Some c) × (Contains c.inherited a ⊎ Contains c.synthesized a) → StandsBefore row a b
            go (k, c, e, inl m) = (
              k,
              c,
              e,
              lacks k c e (inl m),
              inl (
                m,
                (λ n.
                    let p = inherited-class k c a e m in let q = inherited-class k c b e n in let s = p.1 in let t = q.1 in
                    not-earlier (2 * p.0 + 1) (2 * q.0 + 1) a b p.2 q.2 (omega (arith, s, t)) early),
              ),
            )
            go (k, c, e, inr m) = (
              k,
              c,
              e,
              lacks k c e (inr m),
              inr (
                m,
                (λ n. let p = synthesized-class k c a e m in let q = inherited-class k c b e n in let s = p.1 in let t = q.1 in not-earlier (2 * p.0) (2 * q.0 + 1) a b p.2 q.2 (omega (arith, s, t)) early),
                (λ n. let p = synthesized-class k c a e m in let q = synthesized-class k c b e n in let s = p.1 in let t = q.1 in not-earlier (2 * p.0) (2 * q.0) a b p.2 q.2 (omega (arith, s, t)) early),
              ),
            )

        back : StandsBefore row a b → IsEarlier symbols rules x a b
        back (k, c, e, lacks, m) = go (stands symbols rules x row are b some)
          where
            there : IsSome (attribute_at symbols x a)
            there = elim m [
              | inl p ↦ (let h = inherited-kind symbols rules x row are k c a e p.0 in some-is (attribute_at symbols x a) h.0 h.1)
              | inr q ↦ (let h = synthesized-kind symbols rules x row are k c a e q.0 in some-is (attribute_at symbols x a) h.0 h.1)
            ]

            place : Contains c.inherited a ⊎ Contains c.synthesized a
            place = elim m [ inl p ↦ inl p.0 | inr q ↦ inr q.0 ]

            absent : (l : ℕ) (d : VisitClass) → slice_get row l ≡ Some d → (Contains d.inherited b ⊎ Contains d.synthesized b) → l < k → ⊥
            absent l d f (inl n) h = (lacks l d h f).0 n
            absent l d f (inr n) h = (lacks l d h f).1 n

            at-same : (d : VisitClass) → d ≡ c → (Contains d.inherited b ⊎ Contains d.synthesized b) → IsEarlier symbols rules x a b
            at-same d same (inl n) = absurd (elim m [ inl p ↦ p.1 (subst (λ (z : VisitClass). Contains z.inherited b) same n) | inr q ↦ q.1 (subst (λ (z : VisitClass). Contains z.inherited b) same n) ])
            at-same d same (inr n) = elim m [
              | inl p ↦ (let s = inherited-class k c a e p.0 in let t = synthesized-class k c b e (subst (λ (z : VisitClass). Contains z.synthesized b) same n) in let u = s.1 in let v = t.1 in
                  later-class (2 * s.0 + 1) (2 * t.0) a b s.2 t.2 (omega (arith, u, v)) there)
              | inr q ↦ absurd (q.2 (subst (λ (z : VisitClass). Contains z.synthesized b) same n))
            ]

            go : (l : ℕ) × (d : VisitClass) × (slice_get row l ≡ Some d) × (Contains d.inherited b ⊎ Contains d.synthesized b) → IsEarlier symbols rules x a b
            go (l, d, f, n) = pick (cases_order l k)
              where
                pick : (l ≡ k) ⊎ ((l < k) ⊎ (k < l)) → IsEarlier symbols rules x a b
                pick (inr (inl h)) = absurd (absent l d f n h)
                pick (inl same) = at-same d (held (sym f ∙ (ap (λ i. slice_get row i) same ∙ e))) n
                pick (inr (inr h)) =
                    let p = any-class k c a e place in let q = any-class l d b f n in
                    let s = p.1 in let t = q.1 in let u = p.3 in let v = q.4 in
                    later-class p.2 q.2 a b p.5 q.5 (omega (arith, s, t, u, v, h)) there

module _ (symbols : List FlatSymbol) (rules : List FlatRule) (shapes : List Shape) (root : SymId) (w : IsWellFormed symbols rules shapes root) where
  pub few : (x : SymId) (a : AttrId) → IsSome (attribute_at symbols x a) → a.0 < 256
  few x a some = go (slice_get symbols x.0) refl some
    where
      go : (o : Option FlatSymbol) → slice_get symbols x.0 ≡ o → IsSome (option_and_then (λ (y : FlatSymbol). slice_get y.attrs a.0) o) → a.0 < 256
      go None e f = absurd (true≢false (sym f))
      go (Some s) e f =
          let v = value_in (slice_get s.attrs a.0) f in let l = slice_get_within s.attrs a.0 v.0 v.1 in
          let m = All-contains (λ (y : FlatSymbol). length y.attrs ≤ 256) symbols s w.few_attributes (contains-slice_get symbols x.0 s e) in omega (arith, l, m)

  pub few-at : (r : FlatRule) (o : Occ) → IsSome (attribute_of symbols r o) → o.attr.0 < 256
  few-at r o some = let p = symbol-there symbols r o some in few p.0 o.attr p.2

  module _ (rows : List (List ℕ)) (are : AreInducedRows symbols rules rows) where
    -- the rows are as long as the lists of attributes
    as-long : (x : SymId) (s : FlatSymbol) (of_x : List ℕ) → slice_get symbols x.0 ≡ Some s → slice_get rows x.0 ≡ Some of_x → length s.attrs ≡ length of_x
    as-long x s of_x e f = held (sym (ap (option_map (λ (y : FlatSymbol). length y.attrs)) e) ∙ (sym (slice_get-map (λ (y : FlatSymbol). length y.attrs) symbols x.0)
        ∙ (ap (λ (l : List ℕ). slice_get l x.0) are.0 ∙ (slice_get-map (λ (l : List ℕ). length l) rows x.0 ∙ ap (option_map (λ (l : List ℕ). length l)) f))))

    -- a symbol that has an attribute has a row
    pub has-row : (x : SymId) (a : AttrId) → IsSome (attribute_at symbols x a) → slice_get rows x.0 ≡ None → ⊥
    has-row x a some none = go (slice_get symbols x.0) refl some
      where
        go : (o : Option FlatSymbol) → slice_get symbols x.0 ≡ o → IsSome (option_and_then (λ (y : FlatSymbol). slice_get y.attrs a.0) o) → ⊥
        go None e f = true≢false (sym f)
        go (Some s) e f = none-some (length s.attrs) (sym (ap (option_map (λ (l : List ℕ). length l)) none) ∙ (sym (slice_get-map (λ (l : List ℕ). length l) rows x.0)
            ∙ (ap (λ (l : List ℕ). slice_get l x.0) (sym are.0) ∙ (slice_get-map (λ (y : FlatSymbol). length y.attrs) symbols x.0 ∙ ap (option_map (λ (y : FlatSymbol). length y.attrs)) e))))

    pub induced-is : (x : SymId) (of_x : List ℕ) → slice_get rows x.0 ≡ Some of_x → (a b : AttrId) → IDS rules x a b ↔ ((row : ℕ) × (slice_get of_x a.0 ≡ Some row) × IsBitSet row b.0)
    induced-is x of_x e a b = (forth, (λ (row, f, bit). (are.1 x a b of_x row e f).0 bit))
      where
        forth : IDS rules x a b → (row : ℕ) × (slice_get of_x a.0 ≡ Some row) × IsBitSet row b.0
        forth i = go (slice_get symbols x.0) refl (IDS-attribute symbols rules shapes root w i)
          where
            go : (o : Option FlatSymbol) → slice_get symbols x.0 ≡ o → IsSome (option_and_then (λ (y : FlatSymbol). slice_get y.attrs a.0) o) → (row : ℕ) × (slice_get of_x a.0 ≡ Some row) × IsBitSet row b.0
            go None f g = absurd (true≢false (sym g))
            go (Some s) f g =
                let v = value_in (slice_get s.attrs a.0) g in let l = slice_get_within s.attrs a.0 v.0 v.1 in let m = as-long x s of_x f e in
                pick (slice_get_cases of_x a.0).1 (omega (arith, l, m))
              where
                pick : ((row : ℕ) × (a.0 < length of_x) × (slice_get of_x a.0 ≡ Some row) × (get_or of_x a.0 row ≡ row)) ⊎ ((length of_x ≤ a.0) × (slice_get of_x a.0 ≡ None)) → a.0 < length of_x → (row : ℕ) × (slice_get of_x a.0 ≡ Some row) × IsBitSet row b.0
                pick (inl (row, l, h, k)) inside = (row, h, (are.1 x a b of_x row e h).1 i)
                pick (inr (l, h)) inside = absurd (omega (arith, l, inside))

    -- the union of both sets is what comes before the goal
    pub before-is : (visits : List (List VisitClass)) → AreAllVisits symbols rules visits → (r : FlatRule) (goal : Occ) (x : SymId) (of_x : List ℕ) (before more set : ℕ) → IsSome (attribute_of symbols r goal) → symbol_at r goal.occ ≡ Some x → slice_get rows x.0 ≡ Some of_x
        → ((a : AttrId) → IsBitSet before a.0 ↔ ((a.0 < 256) × StandsBefore (visits_there visits r goal.occ) a goal.attr))
        → ((a : AttrId) → IsBitSet more a.0 ↔ ((a.0 < 256) × (row : ℕ) × (slice_get of_x a.0 ≡ Some row) × IsBitSet row goal.attr.0))
        → ((j : ℕ) → IsBitSet set j ↔ (IsBitSet before j ⊎ IsBitSet more j)) → (a : AttrId) → IsBitSet set a.0 ↔ IsBefore symbols rules r goal a
    before-is visits all r goal x of_x before more set some at e has induced union a = (forth, back)
      where
        there : IsSome (attribute_at symbols x goal.attr)
        there = let p = symbol-there symbols r goal some in subst (λ s. IsSome (attribute_at symbols s goal.attr)) (held (sym p.1 ∙ at)) p.2

        row : (l : List VisitClass) × (slice_get visits x.0 ≡ Some l) × AreVisits symbols rules x l
        row = row-there symbols rules visits all x (attribute-nonterminal symbols rules shapes root w x goal.attr there)

        same-row : visits_there visits r goal.occ ≡ row.0
        same-row = ap (λ (o : Option SymId). Rattle.std.specs.Prelude.unwrap_or (option_and_then (λ (s : SymId). slice_get visits s.0) o) []) at ∙ ap (λ (o : Option (List VisitClass)). Rattle.std.specs.Prelude.unwrap_or o []) row.1

        earlier : IsEarlier symbols rules x a goal.attr ↔ StandsBefore (visits_there visits r goal.occ) a goal.attr
        earlier = subst (λ l. IsEarlier symbols rules x a goal.attr ↔ StandsBefore l a goal.attr) (sym same-row) (earlier-is symbols rules x row.0 row.2 a goal.attr there)

        forth : IsBitSet set a.0 → IsBefore symbols rules r goal a
        forth bit = elim ((union a.0).0 bit) [
          | inl i ↦ (x, at, inr (earlier.1 ((has a).0 i).1))
          | inr j ↦ (let p = (induced a).0 j in (x, at, inl ((induced-is x of_x e a goal.attr).1 (p.1, p.2, p.3))))
        ]

        back : IsBefore symbols rules r goal a → IsBitSet set a.0
        back (y, at', other) = (union a.0).1 (pick (subst (λ s. IDS rules s a goal.attr ⊎ IsEarlier symbols rules s a goal.attr) (held (sym at' ∙ at)) other))
          where
            pick : IDS rules x a goal.attr ⊎ IsEarlier symbols rules x a goal.attr → IsBitSet before a.0 ⊎ IsBitSet more a.0
            pick (inl i) = let p = (induced-is x of_x e a goal.attr).0 i in inr ((induced a).1 (few x a (IDS-attribute symbols rules shapes root w i), p.0, p.1, p.2))
            pick (inr early) = inl ((has a).1 (few x a early.0, earlier.0 early))

-- the attribute that stands at an occurrence is one of its symbol
pub there-at : (symbols : List FlatSymbol) (r : FlatRule) (goal : Occ) (x : SymId) → IsSome (attribute_of symbols r goal) → symbol_at r goal.occ ≡ Some x → IsSome (attribute_at symbols x goal.attr)
there-at symbols r goal x some at = let p = symbol-there symbols r goal some in subst (λ s. IsSome (attribute_at symbols s goal.attr)) (held (sym p.1 ∙ at)) p.2

-- what the goal of a computation depends on is what the computation depends on
pub depends-is : (symbols : List FlatSymbol) (r : FlatRule) (c : FlatComp) (list : List Occ) → IsRule symbols r → Contains r.comps c → ((o : Occ) → Contains list o ↔ Contains (dependencies c) o) → (u : Occ) → Contains list u ↔ DP r u c.goal
depends-is symbols r c list rule among same u = (
  (λ m. (c, among, (same u).0 m, refl)),
  (λ (d, m, n, e). (same u).1 (subst (λ x. Contains (dependencies x) u) (one d m e) n)),
)
  where
    one : (d : FlatComp) → Contains r.comps d → d.goal ≡ c.goal → d ≡ c
    one d (i, l, e) f = at among
      where
        at : Contains r.comps c → d ≡ c
        at (j, m, g) = go (cases_order i j)
          where
            same-default : (k : ℕ) (x y : FlatComp) → k < length r.comps → get_or r.comps k x ≡ get_or r.comps k y
            same-default k x y h = get_or_default r.comps k x y h

            go : (i ≡ j) ⊎ ((i < j) ⊎ (j < i)) → d ≡ c
            go (inl p) = sym e ∙ (same-default i d c l ∙ (ap (λ k. get_or r.comps k c) p ∙ g))
            go (inr (inl h)) = absurd (rule.once i j c h m (ap (λ (x : FlatComp). x.goal) (same-default i c d l ∙ e) ∙ (f ∙ sym (ap (λ (x : FlatComp). x.goal) g))))
            go (inr (inr h)) = absurd (rule.once j i c h l (ap (λ (x : FlatComp). x.goal) g ∙ (sym f ∙ sym (ap (λ (x : FlatComp). x.goal) (same-default i c d l ∙ e)))))
