-- The vertices of a rule, one after the other.
use Rattle.std.specs.Prelude.{slice_get, IsSome}
use Rattle.std.proofs.Common.{◌≡◌, ℕ, ◌+◌, ◌<◌, ◌≤◌, ◌⊎◌, inl, inr, List, [], ◌∷◌, ◌++◌, length, length-append, Option, Some, None, refl, sym, ap, subst, ◌∙◌, arith}
use Rattle.std.proofs.lemmas.Bool.{cases_lt}
use Rattle.lido_base.specs.declared.ids.SymId.{SymId}
use Rattle.flat_grammar.specs.declared.flat.Occ.{Occ}
use Rattle.flat_grammar.specs.declared.flat.FlatSymbol.{FlatSymbol}
use Rattle.flat_grammar.specs.declared.flat.FlatRule.{FlatRule}
use Rattle.flat_grammar.specs.Rules.{symbol_at, attribute_at, attrs_of}
use Rattle.flat_grammar.specs.WellFormed.{attribute_of}
use Rattle.flat_grammar.specs.Cycles.{IsAtMost}
use Rattle.partitions.specs.RuleGraph.{IsBefore, AreVerticesBefore}
use Rattle.partitions.proofs.PeelingLemmas.{pushed-get, below-length, attribute-some, attribute-below}
use Rattle.partitions.proofs.SearchLemmas.{push-old, push-new}

pub same-occ : (o p : Occ) → o.occ ≡ p.occ → o.attr.0 ≡ p.attr.0 → o ≡ p
same-occ o p e f = λ i. record { occ = e i; attr = record { 0 = f i } }

module _ (symbols : List FlatSymbol) (r : FlatRule) where
  -- an attribute stands at an occurrence where its symbol has it
  pub occ-some : (rules : List FlatRule) (o : Occ) (x : SymId) → symbol_at r o.occ ≡ Some x → o.attr.0 < length (attrs_of symbols x) → IsSome (attribute_of symbols r o)
  occ-some rules o x at below = subst (λ (s : Option SymId). IsSome (elim s [ None ↦ None | Some s ↦ attribute_at symbols s o.attr ])) (sym at) (attribute-some symbols rules x o.attr below)

  pub occ-below : (rules : List FlatRule) (o : Occ) (x : SymId) → symbol_at r o.occ ≡ Some x → IsSome (attribute_of symbols r o) → o.attr.0 < length (attrs_of symbols x)
  occ-below rules o x at some = attribute-below symbols rules x o.attr (subst (λ (s : Option SymId). IsSome (elim s [ None ↦ None | Some s ↦ attribute_at symbols s o.attr ])) at some)

  pub vertex-push : (rules : List FlatRule) (k a start : ℕ) (occs new : List Occ) (starts : List ℕ) (x : SymId) (p : Occ) → AreVerticesBefore symbols r k a occs starts → symbol_at r k ≡ Some x → a < length (attrs_of symbols x)
      → slice_get starts k ≡ Some start → length occs ≡ start + a → p.occ ≡ k → p.attr.0 ≡ a → new ≡ occs ++ (p ∷ []) → AreVerticesBefore symbols r k (a + 1) new starts
  vertex-push rules k a start occs new starts x p before at below started count p_occ p_attr pushed = subst (λ (xs : List Occ). AreVerticesBefore symbols r k (a + 1) xs starts) (sym pushed) (record {
    to = λ v o got. elim (pushed-get occs p v o got) [
      | inl old ↦ (wider o (before.to v o old).0, (before.to v o old).1)
      | inr here ↦ subst (λ (q : Occ). IsBefore k (a + 1) q × IsSome (attribute_of symbols r q)) here.1
          (inr (p_occ, (omega arith)), occ-some rules p x (ap (symbol_at r) p_occ ∙ at) (omega arith))
    ];
    from = λ o is some. found o is some;
    ascending = λ v w o q le a b. order v w o q le (pushed-get occs p v o a) (pushed-get occs p w q b);
    apart = λ v w o a b. once v w o (pushed-get occs p v o a) (pushed-get occs p w o b);
    bounded = λ i s at. let l = before.bounded i s at in let n = length-append occs (p ∷ []) in omega arith;
  })
    where
      wider : (o : Occ) → IsBefore k a o → IsBefore k (a + 1) o
      wider o (inl l) = inl l
      wider o (inr e) = inr (e.0, (let l = e.1 in omega arith))

      found : (o : Occ) → IsBefore k (a + 1) o → IsSome (attribute_of symbols r o) → (s : ℕ) × (slice_get starts o.occ ≡ Some s) × (slice_get (occs ++ (p ∷ [])) (s + o.attr.0) ≡ Some o)
      found o (inl l) some = let h = before.from o (inl l) some in (h.0, h.1, push-old occs p (h.0 + o.attr.0) o h.2)
      found o (inr e) some = elim (cases_lt o.attr.0 a) [
        | inl l ↦ (let h = before.from o (inr (e.0, l)) some in (h.0, h.1, push-old occs p (h.0 + o.attr.0) o h.2))
        | inr g ↦
            let l = e.1 in
            let same : start + o.attr.0 ≡ length occs = omega arith in
            (start, ap (λ i. slice_get starts i) e.0 ∙ started, ap (λ i. slice_get (occs ++ (p ∷ [])) i) same ∙ push-new occs p ∙ ap Some (same-occ p o (p_occ ∙ sym e.0) (omega arith)))
      ]

      not_before : (o : Occ) → IsBefore k a o → p ≡ o → ⊥
      not_before o (inl l) e = absurd (let f = ap (λ (q : Occ). q.occ) e in omega arith)
      not_before o (inr l) e = absurd (let f = ap (λ (q : Occ). q.attr.0) e in let b = l.1 in omega arith)

      once : (v w : ℕ) (o : Occ) → (slice_get occs v ≡ Some o) ⊎ ((v ≡ length occs) × (p ≡ o)) → (slice_get occs w ≡ Some o) ⊎ ((w ≡ length occs) × (p ≡ o)) → v ≡ w
      once v w o (inl a) (inl b) = before.apart v w o a b
      once v w o (inl a) (inr b) = absurd (not_before o (before.to v o a).0 b.1)
      once v w o (inr a) (inl b) = absurd (not_before o (before.to w o b).0 a.1)
      once v w o (inr a) (inr b) = a.0 ∙ sym b.0

      order : (v w : ℕ) (o q : Occ) → v ≤ w → (slice_get occs v ≡ Some o) ⊎ ((v ≡ length occs) × (p ≡ o)) → (slice_get occs w ≡ Some q) ⊎ ((w ≡ length occs) × (p ≡ q)) → IsAtMost o q
      order v w o q le (inl a) (inl b) = before.ascending v w o q le a b
      order v w o q le (inl a) (inr b) = subst (λ (z : Occ). IsAtMost o z) b.1 (elim (before.to v o a).0 [ inl l ↦ inl (omega arith) | inr e ↦ inr (e.0 ∙ sym p_occ, (let l = e.1 in omega arith)) ])
      order v w o q le (inr a) (inl b) = absurd (let l = below-length occs w q b in let e = a.0 in omega arith)
      order v w o q le (inr a) (inr b) = subst (λ (z : Occ). IsAtMost o z) (sym a.1 ∙ b.1) (inr (refl, (omega arith)))

  pub next-occurrence : (rules : List FlatRule) (k a : ℕ) (occs : List Occ) (starts : List ℕ) (x : SymId) → AreVerticesBefore symbols r k a occs starts → symbol_at r k ≡ Some x → length (attrs_of symbols x) ≤ a → AreVerticesBefore symbols r (k + 1) 0 occs starts
  next-occurrence rules k a occs starts x before at all = record {
    to = λ v o got. (elim (before.to v o got).0 [ inl l ↦ inl (omega arith) | inr e ↦ inl (let f = e.0 in omega arith) ], (before.to v o got).1);
    from = λ o is some. elim (cases_lt o.occ k) [
      | inl l ↦ before.from o (inl l) some
      | inr g ↦ (let same : o.occ ≡ k = elim is [ inl l ↦ omega arith | inr e ↦ absurd (let l = e.1 in omega arith) ] in
          before.from o (inr (same, (let b = occ-below rules o x (ap (symbol_at r) same ∙ at) some in omega arith))) some)
    ];
    ascending = before.ascending;
    apart = before.apart;
    bounded = before.bounded;
  }

  pub start-push : (k n : ℕ) (occs : List Occ) (starts new : List ℕ) → AreVerticesBefore symbols r k 0 occs starts → n ≤ length occs → new ≡ starts ++ (n ∷ []) → AreVerticesBefore symbols r k 0 occs new
  start-push k n occs starts new before small pushed = subst (λ (xs : List ℕ). AreVerticesBefore symbols r k 0 occs xs) (sym pushed) (record {
    to = before.to;
    from = λ o is some. let h = before.from o is some in (h.0, push-old starts n o.occ h.0 h.1, h.2);
    ascending = before.ascending;
    apart = before.apart;
    bounded = λ i s at. elim (pushed-get starts n i s at) [ inl old ↦ before.bounded i s old | inr here ↦ subst (λ m. m ≤ length occs) here.1 small ];
  })
