-- Peeling only adds, its classes are disjoint and each of one kind, and a class has one list.
use Rattle.std.specs.Prelude.{◌*◌}
use Rattle.std.proofs.Common.{◌≡◌, ℕ, zero, suc, ◌<◌, ◌≤◌, ◌⊎◌, inl, inr, List, arith, subst, length, ◌+◌, sym, ap, ◌∙◌, reverse}
use Rattle.std.proofs.lemmas.Bool.{cases_order}
use Rattle.lido_base.specs.declared.ids.SymId.{SymId}
use Rattle.lido_base.specs.declared.ids.AttrId.{AttrId}
use Rattle.flat_grammar.specs.declared.flat.FlatSymbol.{FlatSymbol}
use Rattle.flat_grammar.specs.declared.flat.FlatRule.{FlatRule}
use Rattle.flat_grammar.specs.Partition.{IsPeeled, IsInClass, HasKind, kind_of_class, IsClass, AreVisits}
use Rattle.std.proofs.lemmas.List.{reverse-reverse, length-reverse}
use Rattle.flat_grammar.specs.declared.plan.VisitClass.{VisitClass}
use Rattle.flat_grammar.proofs.Lists.{same-increasing, same-by-places}

below-suc : (j k : ℕ) → j ≤ suc k → (j ≤ k) ⊎ (j ≡ suc k)
below-suc j k h = elim (cases_order j (suc k)) [ inl e ↦ inr e | inr o ↦ elim o [ inl l ↦ inl (omega arith) | inr g ↦ absurd (omega arith) ] ]

same-attribute : (a b : AttrId) → a.0 ≡ b.0 → a ≡ b
same-attribute a b e = λ i. record { 0 = e i }

module _ (symbols : List FlatSymbol) (rules : List FlatRule) (x : SymId) where
  pub IsPeeled-grows : (k j : ℕ) (a : AttrId) → j ≤ k → IsPeeled symbols rules x j a → IsPeeled symbols rules x k a
  IsPeeled-grows zero j a h p = let none : j ≡ 0 = omega arith in subst (λ i. IsPeeled symbols rules x i a) none p
  IsPeeled-grows (suc k) j a h p = elim (below-suc j k h) [ inl l ↦ inl (IsPeeled-grows k j a l p) | inr e ↦ subst (λ i. IsPeeled symbols rules x i a) e p ]

  pub IsInClass-once : (j k : ℕ) (a : AttrId) → IsInClass symbols rules x j a → IsInClass symbols rules x k a → j ≡ k
  IsInClass-once j k a p q = go (cases_order j k)
    where
      go : (j ≡ k) ⊎ ((j < k) ⊎ (k < j)) → j ≡ k
      go (inl e) = e
      go (inr (inl l)) = absurd (q.1 (IsPeeled-grows k (suc j) a (omega arith) p.0))
      go (inr (inr g)) = absurd (p.1 (IsPeeled-grows j (suc k) a (omega arith) q.0))

  pub IsInClass-kind : (k : ℕ) (a : AttrId) → IsInClass symbols rules x k a → HasKind symbols x (kind_of_class k) a
  IsInClass-kind k a (inl p, n) = absurd (n p)
  IsInClass-kind k a (inr (set, m, c), n) = (c a m).0

  pub IsClass-only : (k : ℕ) (xs ys : List AttrId) → IsClass symbols rules x k xs → IsClass symbols rules x k ys → xs ≡ ys
  IsClass-only k xs ys p q = same-increasing (λ (a : AttrId). a.0) same-attribute xs ys p.ascending q.ascending
      (λ a m. (q.same a).1 ((p.same a).0 m)) (λ a m. (p.same a).1 ((q.same a).0 m))

  same-class : (c d : VisitClass) → c.inherited ≡ d.inherited → c.synthesized ≡ d.synthesized → c ≡ d
  same-class c d e f = λ i. record { inherited = e i; synthesized = f i }

  -- a symbol has one row of visits
  pub AreVisits-only : (row other : List VisitClass) → AreVisits symbols rules x row → AreVisits symbols rules x other → row ≡ other
  AreVisits-only row other p q = sym (reverse-reverse row) ∙ (ap reverse backwards ∙ reverse-reverse other)
    where
      as-long : length row ≡ length other
      as-long = let a = p.fewest (length other) q.all q.one in let b = q.fewest (length row) p.all p.one in omega (arith, a, b)

      backwards : reverse row ≡ reverse other
      backwards = same-by-places (reverse row) (reverse other) (length-reverse row ∙ (as-long ∙ sym (length-reverse other)))
          (λ k c d e f. let a = p.classes k c e in let b = q.classes k d f in
          same-class c d (IsClass-only (2 * k + 1) c.inherited d.inherited a.1 b.1) (IsClass-only (2 * k) c.synthesized d.synthesized a.0 b.0))
