use Rattle.std.specs.Prelude.{◌≡◌, ℕ, suc, Contains, refl, [], ◌∷◌}
use Rattle.std.proofs.Common.{arith, subst, sym, ◌∙◌}
use Rattle.lido_base.specs.declared.kinds.Kind.TheVariants as kind
use Rattle.lido_syntax.specs.declared.spec.Comp.{Comp}
use Rattle.lido_syntax.specs.declared.spec.RuleItem.{RuleItem}
use Rattle.lido_syntax.specs.Production.{left_of}
use Rattle.lido_syntax.specs.Attributes.{Has, HasKind}
use Rattle.lido_syntax.specs.Completeness.{IsSingle}
use Rattle.lido_syntax.specs.Computation.{Synthesized, Inherited, by_rule, of_rule, InRule, IsRuleTarget, HasComputation}
use Rattle.trials_of_syntax.specs.SumOfItems.{spec, top_rule, item_rule, out, number, Top, Item, n}
use Rattle.trials_of_syntax.proofs.Members.{every, apart}
use Rattle.trials_of_syntax.proofs.RulesOnly.{no_body, only_rules}
use Rattle.trials_of_syntax.proofs.SumOfItemsLemmas.{only_number, only_synthesized, kind_number, one_type}
use Rattle.trials_of_syntax.proofs.whole.complete_specification.Goals as goal

single_rule : (c d : Comp) (r : RuleItem) → Contains spec.rules r → Contains r.body c → Contains r.body d → c ≡ d
single_rule c d r m h k = every (λ (r : RuleItem). Contains r.body c → Contains r.body d → c ≡ d) spec.rules
    ((λ h k. same out h ∙ sym (same out k)), ((λ h k. same number h ∙ sym (same number k)), tt)) r m h k
  where
    same : {c : Comp} (d : Comp) → Contains (d ∷ []) c → c ≡ d
    same {c} d h = every (λ c. c ≡ d) (d ∷ []) (refl, tt) c h

single : IsSingle spec
single = record {
  in_rule = λ r k goal c d m a b. single_rule c d r m a.0 b.0;
  in_symbol = λ s goal c d a b. absurd (no_body spec.rules spec.attrs spec.terms spec.chains s c a.0);
}

synthesized : (r : RuleItem) (a : ℕ) → Contains spec.rules r → Has spec (left_of r) a → HasComputation spec r 0 (left_of r) (Synthesized a)
synthesized r a m h = every (λ (r : RuleItem). Has spec (left_of r) a → HasComputation spec r 0 (left_of r) (Synthesized a)) spec.rules
    ((λ h. absurd (apart Top Item Top refl (only_number Top a h).0 refl)), ((λ h. subst (λ a. HasComputation spec item_rule 0 Item (Synthesized a)) (sym (only_number Item a h).1) number_computed), tt)) r m h
  where
    number_computed : HasComputation spec item_rule 0 Item (Synthesized n)
    number_computed = (by_rule, number, of_rule (refl, tt) ((0, omega arith, refl), (refl, refl, (λ h. cc))))

uncomputed : (r : RuleItem) (k s a : ℕ) → Contains spec.rules r → ¬ HasComputation spec r (suc k) s (Inherited a)
uncomputed r k s a m (h, c, force) = every (λ (r : RuleItem). ¬ InRule spec r (suc k) (Inherited a) c) spec.rules (at_top, (at_item, tt)) r m
    (only_rules spec.rules spec.attrs spec.terms spec.chains r (suc k) s (Inherited a) h c force).1
  where
    at_top : ¬ InRule spec top_rule (suc k) (Inherited a) c
    at_top h = every (λ (c : Comp). ¬ IsRuleTarget spec top_rule c c.target (suc k) (Inherited a)) top_rule.body ((λ h. h), tt) c h.0 h.1

    at_item : ¬ InRule spec item_rule (suc k) (Inherited a) c
    at_item h = every (λ (c : Comp). ¬ IsRuleTarget spec item_rule c c.target (suc k) (Inherited a)) item_rule.body ((λ h. let wrong = h.0 in cc), tt) c h.0 h.1

pub returns : goal.returns
returns c = record {
  single = single;
  one_kind = λ s a k l h i. only_synthesized s a k h ∙ sym (only_synthesized s a l i);
  one_type = one_type;
  synthesized = λ r a m h. ((λ k. synthesized r a m h), (λ k. let is = only_number (left_of r) a h in subst (λ s. HasKind spec s a kind.Synthesized) (sym is.0) (subst (λ a. HasKind spec Item a kind.Synthesized) (sym is.1) kind_number)));
  inherited = λ r k s a m h i. ((λ j. let wrong = only_synthesized s a kind.Inherited j in cc), (λ j. absurd (uncomputed r k s a m j)));
  root = λ s a h i j. let wrong = only_synthesized s a kind.Inherited j in cc;
}
