-- The computations of a rule, goal by goal.
use Rattle.std.specs.Prelude.{slice_get}
use Rattle.std.proofs.Common.{◌≡◌, ℕ, ◌+◌, ◌⊎◌, inl, inr, List, [], ◌∷◌, ◌++◌, length, Some, refl, sym, ap, subst, ◌∙◌, arith}
use Rattle.std.proofs.lemmas.Bool.{cases_lt}
use Rattle.std.proofs.lemmas.Option.{none-some}
use Rattle.flat_grammar.specs.declared.flat.Occ.{Occ}
use Rattle.flat_grammar.specs.declared.flat.FlatComp.{FlatComp}
use Rattle.large_grammars.specs.declared.size.Size.{Size}
use Rattle.large_grammars.specs.Sizes.{IsGoalOf, IsComputation, IsBefore, AreBefore, kind_of, goal_kind}
use Rattle.large_grammars.proofs.Places.{pushed-get, kept-get, last-get, each-push}

-- the attribute occurrence of these numbers
abbrev pub occurrence_at : ℕ → ℕ → Occ
occurrence_at k a = record { occ = k; attr = record { 0 = a } }

same-occurrence : (o : Occ) (k a : ℕ) → o.occ ≡ k → o.attr.0 ≡ a → o ≡ occurrence_at k a
same-occurrence o k a e f = λ i. record { occ = e i; attr = record { 0 = f i } }

wider : (k a : ℕ) (o : Occ) → IsBefore k a o → IsBefore k (a + 1) o
wider k a o (inl l) = inl l
wider k a o (inr (e, l)) = inr (e, omega arith)

-- a place before the next one is before this one, or this one
narrower : (k a : ℕ) (o : Occ) → IsBefore k (a + 1) o → IsBefore k a o ⊎ (o ≡ occurrence_at k a)
narrower k a o (inl l) = inl (inl l)
narrower k a o (inr (e, l)) = elim (cases_lt o.attr.0 a) [
  | inl below ↦ inl (inr (e, below))
  | inr g ↦ inr (same-occurrence o k a e (omega arith))
]

not-before : (k a : ℕ) (o : Occ) → o ≡ occurrence_at k a → IsBefore k a o → ⊥
not-before k a o e (inl l) = let f : o.occ ≡ k = ap (λ (p : Occ). p.occ) e in absurd (omega arith)
not-before k a o e (inr (s, l)) = let f : o.attr.0 ≡ a = ap (λ (p : Occ). p.attr.0) e in absurd (omega arith)

module _ (size : Size) where
  pub before-none : AreBefore size 0 0 []
  before-none = record {
    each = λ k c e. absurd (none-some c e);
    goals = λ o g b. absurd (never o b);
    once = λ i j c d e f s. absurd (none-some c e);
  }
    where
      never : (o : Occ) → IsBefore 0 0 o → ⊥
      never o (inl l) = absurd (omega arith)
      never o (inr (e, l)) = absurd (omega arith)

  pub before-push : (k a : ℕ) (comps new : List FlatComp) (comp : FlatComp) → AreBefore size k a comps → new ≡ comps ++ (comp ∷ []) → comp.goal ≡ occurrence_at k a → IsComputation size comp → AreBefore size k (a + 1) new
  before-push k a comps new comp are pushed goal is = record {
    each = each-push (λ j (c : FlatComp). IsComputation size c × IsBefore k (a + 1) c.goal) comps new comp (λ j c at. let h = are.each j c at in (h.0, wider k a c.goal h.1)) pushed (is, subst (λ (o : Occ). IsBefore k (a + 1) o) (sym goal) (inr (refl, omega arith)));
    goals = λ o g b. find o g (narrower k a o b);
    once = λ i j c d e f s. apart i j c d (at i c e) (at j d f) s;
  }
    where
      find : (o : Occ) → IsGoalOf size o → IsBefore k a o ⊎ (o ≡ occurrence_at k a) → (j : ℕ) × (c : FlatComp) × (slice_get new j ≡ Some c) × (c.goal ≡ o)
      find o g (inl b) = let h = are.goals o g b in (h.0, h.1, subst (λ (xs : List FlatComp). slice_get xs h.0 ≡ Some h.1) (sym pushed) (kept-get comps (comp ∷ []) h.0 h.1 h.2), h.3)
      find o g (inr e) = (length comps, comp, subst (λ (xs : List FlatComp). slice_get xs (length comps) ≡ Some comp) (sym pushed) (last-get comps comp (length comps) refl), goal ∙ sym e)

      at : (i : ℕ) (c : FlatComp) → slice_get new i ≡ Some c → (slice_get comps i ≡ Some c) ⊎ ((i ≡ length comps) × (comp ≡ c))
      at i c e = pushed-get comps comp i c (subst (λ (xs : List FlatComp). slice_get xs i ≡ Some c) pushed e)

      apart : (i j : ℕ) (c d : FlatComp) → (slice_get comps i ≡ Some c) ⊎ ((i ≡ length comps) × (comp ≡ c)) → (slice_get comps j ≡ Some d) ⊎ ((j ≡ length comps) × (comp ≡ d)) → c.goal ≡ d.goal → i ≡ j
      apart i j c d (inl e) (inl f) s = are.once i j c d e f s
      apart i j c d (inl e) (inr (n, f)) s = absurd (not-before k a c.goal (s ∙ (ap (λ (x : FlatComp). x.goal) (sym f) ∙ goal)) (are.each i c e).1)
      apart i j c d (inr (m, e)) (inl f) s = absurd (not-before k a d.goal (sym s ∙ (ap (λ (x : FlatComp). x.goal) (sym e) ∙ goal)) (are.each j d f).1)
      apart i j c d (inr (m, e)) (inr (n, f)) s = m ∙ sym n

  pub before-skip : (k a : ℕ) (comps : List FlatComp) → AreBefore size k a comps → (kind_of a ≡ goal_kind k → ⊥) → AreBefore size k (a + 1) comps
  before-skip k a comps are none = record {
    each = λ j c at. let h = are.each j c at in (h.0, wider k a c.goal h.1);
    goals = λ o g b. find o g (narrower k a o b);
    once = are.once;
  }
    where
      find : (o : Occ) → IsGoalOf size o → IsBefore k a o ⊎ (o ≡ occurrence_at k a) → (j : ℕ) × (c : FlatComp) × (slice_get comps j ≡ Some c) × (c.goal ≡ o)
      find o g (inl b) = are.goals o g b
      find o g (inr e) = absurd (none (subst (λ (p : Occ). kind_of p.attr.0 ≡ goal_kind p.occ) e g.1))

  pub before-next : (k : ℕ) (comps : List FlatComp) → AreBefore size k size.attributes comps → AreBefore size (k + 1) 0 comps
  before-next k comps are = record {
    each = λ j c at. let h = are.each j c at in (h.0, further c.goal h.1);
    goals = λ o g b. are.goals o g (back o g b);
    once = are.once;
  }
    where
      further : (o : Occ) → IsBefore k size.attributes o → IsBefore (k + 1) 0 o
      further o (inl l) = inl (omega arith)
      further o (inr (e, l)) = inl (omega arith)

      back : (o : Occ) → IsGoalOf size o → IsBefore (k + 1) 0 o → IsBefore k size.attributes o
      back o g (inl l) = elim (cases_lt o.occ k) [ inl below ↦ inl below | inr h ↦ inr ((omega arith), g.0.1) ]
      back o g (inr (e, l)) = absurd (omega arith)
