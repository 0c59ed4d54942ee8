use Rattle.std.specs.Prelude.{◌≡◌, ℕ, zero, suc, Contains, false, IsTrue, ◌||◌, ◌⊎◌, refl, [], ◌∷◌, nat_eq}
use Rattle.std.proofs.Common.{arith, subst, sym, ◌∙◌, inl, inr, eqb-true}
use Rattle.lido_base.specs.declared.kinds.Kind.TheVariants as kind
use Rattle.lido_syntax.specs.declared.spec.Comp.{Comp}
use Rattle.lido_base.proofs.TreeLemmas.{either}
use Rattle.lido_syntax.specs.declared.spec.RuleItem.{RuleItem}
use Rattle.lido_syntax.specs.Production.{left_of, CanStandAt}
use Rattle.lido_syntax.specs.Symbols.{IsRoot}
use Rattle.lido_syntax.specs.Attributes.{Has, HasKind}
use Rattle.lido_syntax.specs.Completeness.{IsSingle}
use Rattle.lido_syntax.specs.Computation.{Goal, Synthesized, Inherited, by_rule, by_symbol, InForce, InRule, IsRuleTarget, HasComputation}
use Rattle.trials_of_syntax.specs.HandedDown.{spec, top_rule, left_rule, right_rule, three, out, five, quotient, Top, Left, Right, i}
use Rattle.trials_of_syntax.proofs.Members.{every, same_Some, one_of_two}
use Rattle.trials_of_syntax.proofs.HandedDownLemmas.{in_body, only_handed, one_kind, one_type, kind_left, kind_right, not_synthesized, three_in_force, quotient_in_force, five_in_force}
use Rattle.trials_of_syntax.proofs.inherited.complete_right_sides.Goals as goal

-- two different computations of the root's rule have no goal in common
apart_at_top : (k : ℕ) (goal : Goal) → IsRuleTarget spec top_rule three three.target k goal → ¬ IsRuleTarget spec top_rule out out.target k goal
apart_at_top zero (Goal.Output) h g = h
apart_at_top zero (Goal.Synthesized a) h g = g
apart_at_top zero (Goal.Inherited a) h g = g
apart_at_top zero (Goal.Start a) h g = g
apart_at_top zero (Goal.Behind a) h g = g
apart_at_top zero (Goal.Message a) h g = g
apart_at_top (suc k) goal h g = g

single_at_top : (k : ℕ) (goal : Goal) (c d : Comp) → InRule spec top_rule k goal c → InRule spec top_rule k goal d → c ≡ d
single_at_top k goal c d a b =
    every (λ (c : Comp). IsRuleTarget spec top_rule c c.target k goal → c ≡ d) top_rule.body (
      (λ h. every (λ (d : Comp). IsRuleTarget spec top_rule d d.target k goal → three ≡ d) top_rule.body ((λ g. refl), ((λ g. absurd (apart_at_top k goal h g)), tt)) d b.0 b.1),
      ((λ h. every (λ (d : Comp). IsRuleTarget spec top_rule d d.target k goal → out ≡ d) top_rule.body ((λ g. absurd (apart_at_top k goal g h)), ((λ g. refl), tt)) d b.0 b.1), tt),
    ) c a.0 a.1

single : IsSingle spec
single = record {
  in_rule = λ r k goal c d m a b. every (λ (r : RuleItem). InRule spec r k goal c → InRule spec r k goal d → c ≡ d) spec.rules
      ((λ a b. single_at_top k goal c d a b), ((λ a b. absurd (omega (arith, a.0.1))), ((λ a b. same c a.0 ∙ sym (same d b.0)), tt))) r m a b;
  in_symbol = λ s goal c d a b. (in_body s c a.0).1 ∙ sym (in_body s d b.0).1;
}
  where
    same : (c : Comp) → Contains (quotient ∷ []) c → c ≡ quotient
    same c h = every (λ c. c ≡ quotient) (quotient ∷ []) (refl, tt) c h

-- nothing is synthesized
synthesized : (r : RuleItem) (a : ℕ) → Contains spec.rules r → Has spec (left_of r) a → ¬ HasKind spec (left_of r) a kind.Synthesized
synthesized r a m h k = every (λ (r : RuleItem). Has spec (left_of r) a → ¬ HasKind spec (left_of r) a kind.Synthesized) spec.rules (
  (λ h k. (only_handed Top a h).0 refl),
  (
    (λ h k. let e = one_kind Left i kind.Synthesized kind.Inherited (subst (λ a. HasKind spec Left a kind.Synthesized) (only_handed Left a h).1 k) kind_left in cc),
    ((λ h k. let e = one_kind Right i kind.Synthesized kind.Inherited (subst (λ a. HasKind spec Right a kind.Synthesized) (only_handed Right a h).1 k) kind_right in cc), tt),
  ),
) r m h k

abbrev IsComputed : RuleItem → ℕ → ℕ → Type 0
IsComputed r k s = HasComputation spec r k s (Inherited i)

at_top : (k s : ℕ) → CanStandAt top_rule (suc k) s → IsComputed top_rule (suc k) s
at_top zero s h = subst (IsComputed top_rule 1) (same_Some Left s h) (by_rule, three, three_in_force)
at_top (suc zero) s h = subst (IsComputed top_rule 2) (same_Some Right s h) (by_symbol, five, five_in_force)
at_top (suc (suc k)) s h = cc

at_left : (k s : ℕ) → ¬ CanStandAt left_rule (suc k) s
at_left k s h = cc

at_right : (k s : ℕ) → CanStandAt right_rule (suc k) s → IsComputed right_rule (suc k) s
at_right zero s h = subst (IsComputed right_rule 1) (same_Some Left s h) (by_rule, quotient, quotient_in_force)
at_right (suc k) s h = cc

inherited : (r : RuleItem) (k s a : ℕ) → Contains spec.rules r → CanStandAt r (suc k) s → Has spec s a → HasComputation spec r (suc k) s (Inherited a)
inherited r k s a m can has = subst (λ a. HasComputation spec r (suc k) s (Inherited a)) (sym (only_handed s a has).1)
    (every (λ (r : RuleItem). CanStandAt r (suc k) s → IsComputed r (suc k) s) spec.rules (at_top k s, ((λ h. absurd (at_left k s h)), (at_right k s, tt))) r m can)

-- and what stands on a right side has an inherited attribute
inherited_kind : (r : RuleItem) (k s a : ℕ) → Contains spec.rules r → CanStandAt r (suc k) s → Has spec s a → HasKind spec s a kind.Inherited
inherited_kind r k s a m can has = subst (λ a. HasKind spec s a kind.Inherited) (sym (only_handed s a has).1)
    (every (λ (r : RuleItem). CanStandAt r (suc k) s → HasKind spec s i kind.Inherited) spec.rules (top k, ((λ h. absurd (at_left k s h)), (right k, tt))) r m can)
  where
    top : (k : ℕ) → CanStandAt top_rule (suc k) s → HasKind spec s i kind.Inherited
    top zero h = subst (λ s. HasKind spec s i kind.Inherited) (same_Some Left s h) kind_left
    top (suc zero) h = subst (λ s. HasKind spec s i kind.Inherited) (same_Some Right s h) kind_right
    top (suc (suc k)) h = cc

    right : (k : ℕ) → CanStandAt right_rule (suc k) s → HasKind spec s i kind.Inherited
    right zero h = subst (λ s. HasKind spec s i kind.Inherited) (same_Some Left s h) kind_left
    right (suc k) h = cc

uncomputed : (r : RuleItem) (a : ℕ) → Contains spec.rules r → ¬ HasComputation spec r 0 (left_of r) (Synthesized a)
uncomputed r a m (h, c, force) = every (λ (r : RuleItem). ¬ InForce spec r 0 (left_of r) (Synthesized a) h c) spec.rules
    (not_synthesized a c top_rule ((λ h. let wrong = h.0 in cc), ((λ h. h), tt)) h, (not_synthesized a c left_rule tt h, (not_synthesized a c right_rule ((λ h. let wrong = h.0 in cc), tt) h, tt))) r m force

root : (s a : ℕ) → IsRoot spec s → ¬ Has spec s a
root s a is h = go (nonterminal s is.0)
  where
    nonterminal : (s : ℕ) → IsTrue (nat_eq s Top || (nat_eq s Left || (nat_eq s Right || false))) → (s ≡ Top) ⊎ ((s ≡ Left) ⊎ (s ≡ Right))
    nonterminal s h = at (either (nat_eq s Top) _ h)
      where
        at : IsTrue (nat_eq s Top) ⊎ IsTrue (nat_eq s Left || (nat_eq s Right || false)) → (s ≡ Top) ⊎ ((s ≡ Left) ⊎ (s ≡ Right))
        at (inl e) = inl (eqb-true s Top e)
        at (inr more) = inr (one_of_two s Left Right more)

    go : ¬ ((s ≡ Top) ⊎ ((s ≡ Left) ⊎ (s ≡ Right)))
    go (inl e) = (only_handed s a h).0 e
    go (inr (inl e)) = is.1 (rw e refl)
    go (inr (inr e)) = is.1 (rw e refl)

pub returns : goal.returns
returns c = record {
  single = single;
  one_kind = one_kind;
  one_type = one_type;
  synthesized = λ r a m h. ((λ k. absurd (synthesized r a m h k)), (λ k. absurd (uncomputed r a m k)));
  inherited = λ r k s a m can h. ((λ l. inherited r k s a m can h), (λ l. inherited_kind r k s a m can h));
  root = λ s a is h k. root s a is h;
}
