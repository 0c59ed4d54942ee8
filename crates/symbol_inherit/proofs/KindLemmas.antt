-- Where no kind clashes an attribute of a symbol has one kind.
use Rattle.std.proofs.Common.{◌≡◌, ℕ, ◌<◌, ◌≤◌, ◌⊎◌, inl, inr, arith, refl, sym}
use Rattle.std.proofs.lemmas.Bool.{cases_lt}
use Rattle.lido_base.specs.Environment.{Environment}
use Rattle.lido_base.specs.declared.kinds.Kind.{Kind}
use Rattle.lido_base.specs.declared.kinds.Kind.TheVariants.{Synthesized, Inherited}
use Rattle.lido_syntax.specs.declared.spec.Spec.{Spec}
use Rattle.lido_syntax.specs.Attributes.{OfClass, IsDeclaredKind, Tells, side, synt, inh, HasKind, by_declaration, by_side, by_default}
use Rattle.kind_clashes.specs.KindClash.{SaysKind, declared, by_attr, by_target, by_synt, by_inh, IsKindClash}
use Rattle.kind_clashes.specs.KindClash as clash

same-kind : (k l : Kind) → (k ≡ l) ⊎ (k ≡ l → ⊥)
same-kind Synthesized Synthesized = inl refl
same-kind Synthesized Inherited = inr (λ e. cc)
same-kind Inherited Synthesized = inr (λ e. cc)
same-kind Inherited Inherited = inl refl

module _ (spec : Spec) (env : Environment) (none : (at : ℕ) → ¬ IsKindClash spec env at) (s a : ℕ) where
  abbrev Said : Kind → Type 0
  Said k = (at : ℕ) × SaysKind spec s a k at

  said-declared : (k : Kind) → IsDeclaredKind spec s a k → Said k
  said-declared k (inl (inl (d, is, e))) = (d.attr.at, declared (inl (d, is, e, refl)))
  said-declared k (inl (inr (class, i, (d, is, e)))) = (d.attr.at, declared (inr (class, i, (d, is, e, refl))))
  said-declared k (inr (d, m, n, e)) = (d.attr.at, by_attr d m n e refl)

  said-told : (k : Kind) → OfClass spec (λ x. Tells spec x a k) s → Said k
  said-told k (inl (side r c x i b among of t on n m unlike)) = (b.at, by_target (inl (r, c, x, i, b, among, of, t, on, n, m, unlike, refl)))
  said-told _ (inl (synt c of (b, m, n, unlike))) = (b.at, by_synt refl (inl (c, b, of, m, n, unlike, refl)))
  said-told _ (inl (inh c of (b, m, n, unlike))) = (b.at, by_inh refl (inl (c, b, of, m, n, unlike, refl)))
  said-told k (inr (class, h, side r c x i b among of t on n m unlike)) = (b.at, by_target (inr (class, h, (r, c, x, i, b, among, of, t, on, n, m, unlike, refl))))
  said-told _ (inr (class, h, synt c of (b, m, n, unlike))) = (b.at, by_synt refl (inr (class, h, (c, b, of, m, n, unlike, refl))))
  said-told _ (inr (class, h, inh c of (b, m, n, unlike))) = (b.at, by_inh refl (inr (class, h, (c, b, of, m, n, unlike, refl))))

  both-said : (k l : Kind) → Said k → Said l → k ≡ l
  both-said k l (at, h) (other, j) = by (same-kind k l) (cases_lt other at)
    where
      by : (k ≡ l) ⊎ (k ≡ l → ⊥) → (other < at) ⊎ (at ≤ other) → k ≡ l
      by (inl e) _ = e
      by (inr differ) (inl lt) = absurd (none at (clash.twofold_attribute (clash.kinds s a other l k j h (λ e. differ (sym e)) (omega arith))))
      by (inr differ) (inr le) = absurd (none other (clash.twofold_attribute (clash.kinds s a at k l h j differ le)))

  pub one-kind : (k l : Kind) → HasKind spec s a k → HasKind spec s a l → k ≡ l
  one-kind k l (by_declaration h) (by_declaration j) = both-said k l (said-declared k h) (said-declared l j)
  one-kind k l (by_declaration h) (by_side unlike j) = absurd (unlike k h)
  one-kind k _ (by_declaration h) (by_default unlike _) = absurd (unlike k h)
  one-kind k l (by_side unlike h) (by_declaration j) = absurd (unlike l j)
  one-kind k l (by_side unlike h) (by_side _ j) = both-said k l (said-told k h) (said-told l j)
  one-kind k _ (by_side unlike h) (by_default _ none_told) = absurd (none_told k h)
  one-kind _ l (by_default unlike _) (by_declaration j) = absurd (unlike l j)
  one-kind _ l (by_default _ none_told) (by_side _ j) = absurd (none_told l j)
  one-kind _ _ (by_default _ _) (by_default _ _) = refl
