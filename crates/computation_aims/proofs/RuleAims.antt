-- The aim of a target in a rule's body is its goal at the occurrence.
use Rattle.std.specs.Prelude.{Bool, true, false}
use Rattle.std.proofs.Common.{◌≡◌, ℕ, ℤ, zero, suc, List, Option, Some, None, refl, sym, ap, ◌∙◌, subst}
use Rattle.std.proofs.lemmas.Option.{none-some, same_Some}
use Rattle.lido_base.specs.Tree.{contains}
use Rattle.lido_base.specs.declared.ids.StrId.{StrId}
use Rattle.lido_syntax.specs.declared.spec.Spec.{Spec}
use Rattle.lido_syntax.specs.declared.spec.Name.{Name}
use Rattle.lido_syntax.specs.declared.spec.Comp.{Comp}
use Rattle.lido_syntax.specs.declared.spec.RuleItem.{RuleItem}
use Rattle.lido_syntax.specs.declared.spec.Target.{Target}
use Rattle.lido_syntax.specs.declared.spec.Target.TheVariants as target
use Rattle.lido_syntax.specs.declared.spec.Place.TheVariants as place
use Rattle.lido_syntax.specs.Production.{name_of, occurrence}
use Rattle.lido_syntax.specs.Symbols.{IsChain}
use Rattle.lido_syntax.specs.Computation.{IsRuleTarget}
use Rattle.computation_aims.specs.Aims.{goal_by, goal_of, aim_at, aim_in_rule, AreChains}
use Rattle.computation_aims.specs.declared.aims.Way.{Way}
use Rattle.computation_aims.specs.declared.aims.Way.TheVariants as way
use Rattle.computation_aims.specs.declared.aims.Aim.{Aim}

module _ (spec : Spec) (chains : List ℕ) (are : AreChains spec chains) (r : RuleItem) (c : Comp) where
  goal-moved : (t : Target) (k : ℕ) (aim : Aim) (p : ℕ × Aim) → IsRuleTarget spec r c t p.0 (goal_of p.1) → Some p ≡ Some (let q : ℕ × Aim = (k, aim) in q) → IsRuleTarget spec r c t k (goal_of aim)
  goal-moved t k aim p h e = subst (λ (q : ℕ × Aim). IsRuleTarget spec r c t q.0 (goal_of q.1)) (same_Some p (k, aim) e) h

  at-target : (b : Bool) (o : Option ℕ) (x : Name) (i : Option ℤ) (a : Name) (k : ℕ) (aim : Aim) → contains (name_of a) chains ≡ b → occurrence r x i ≡ o
      → aim_at b o a ≡ Some (let q : ℕ × Aim = (k, aim) in q) → IsRuleTarget spec r c (target.Attr (place.Named x i) a) k (goal_of aim)
  at-target b None x i a k aim e f g = absurd (none-some _ g)
  at-target true (Some zero) x i a k aim e f g = goal-moved (target.Attr (place.Named x i) a) k aim _ (f, refl, (are (name_of a)).0 e) g
  at-target false (Some zero) x i a k aim e f g = goal-moved (target.Attr (place.Named x i) a) k aim _ (f, refl, λ chain. let h = (are (name_of a)).1 chain in cc) g
  at-target true (Some (suc j)) x i a k aim e f g = goal-moved (target.Attr (place.Named x i) a) k aim _ (f, refl) g
  at-target false (Some (suc j)) x i a k aim e f g = goal-moved (target.Attr (place.Named x i) a) k aim _ (f, refl) g

  pub aim-target : (t : Target) (k : ℕ) (aim : Aim) → aim_in_rule chains r t ≡ Some (let q : ℕ × Aim = (k, aim) in q) → IsRuleTarget spec r c t k (goal_of aim)
  aim-target (target.Attr (place.Named x i) a) k aim e = at-target (contains (name_of a) chains) (occurrence r x i) x i a k aim refl refl e
  aim-target (target.Attr place.Synt a) k aim e = absurd (none-some _ e)
  aim-target (target.Attr place.Inh a) k aim e = absurd (none-some _ e)
  aim-target (target.Attr place.This a) k aim e = absurd (none-some _ e)
  aim-target (target.Attr place.Tail a) k aim e = absurd (none-some _ e)
  aim-target (target.Start a) k aim e = goal-moved (target.Start a) k aim _ refl e
  aim-target target.Out k aim e = absurd (none-some _ e)
  aim-target (target.Message s m) k aim e = absurd (none-some _ e)

  -- an attribute or a chain at an occurrence
  named : (x : Name) (i : Option ℤ) (a : Name) (k : ℕ) (w : Way) (n : StrId) → IsRuleTarget spec r c (target.Attr (place.Named x i) a) k (goal_by w n.0)
      → aim_at (contains (name_of a) chains) (occurrence r x i) a ≡ Some (let q : ℕ × Aim = (k, record { way = w; name = n }) in q)
  named x i a zero way.Synthesized n (at, e, not_chain) = by (contains (name_of a) chains) refl
    where
      by : (b : Bool) → contains (name_of a) chains ≡ b → aim_at (contains (name_of a) chains) (occurrence r x i) a ≡ Some (let q : ℕ × Aim = (zero, record { way = way.Synthesized; name = n }) in q)
      by true f = absurd (not_chain (subst (λ z. IsChain spec z) e ((are (name_of a)).0 f)))
      by false f = ap (λ b. aim_at b (occurrence r x i) a) f ∙ ap (λ o. aim_at false o a) at ∙ (λ j. Some (zero, record { way = way.Synthesized; name = record { 0 = e j } }))
  named x i a zero way.Behind n (at, e, chain) =
      ap (λ b. aim_at b (occurrence r x i) a) ((are (name_of a)).1 (subst (λ z. IsChain spec z) (sym e) chain)) ∙ ap (λ o. aim_at true o a) at ∙ (λ j. Some (zero, record { way = way.Behind; name = record { 0 = e j } }))
  named x i a zero way.Inherited n h = absurd h
  named x i a zero way.Start n h = absurd h
  named x i a (suc k) way.Inherited n (at, e) = ap (λ o. aim_at (contains (name_of a) chains) o a) at ∙ (λ j. Some (suc k, record { way = way.Inherited; name = record { 0 = e j } }))
  named x i a (suc k) way.Synthesized n h = absurd h
  named x i a (suc k) way.Start n h = absurd h
  named x i a (suc k) way.Behind n h = absurd h

  by-way : (t : Target) (k : ℕ) (w : Way) (n : StrId) → IsRuleTarget spec r c t k (goal_by w n.0) → aim_in_rule chains r t ≡ Some (let q : ℕ × Aim = (k, record { way = w; name = n }) in q)
  by-way (target.Attr (place.Named x i) a) k w n h = named x i a k w n h
  by-way (target.Start a) zero way.Start n h = λ j. Some (zero, record { way = way.Start; name = record { 0 = h j } })
  by-way (target.Attr place.Synt a) zero way.Synthesized n h = absurd h
  by-way (target.Attr place.Synt a) zero way.Inherited n h = absurd h
  by-way (target.Attr place.Synt a) zero way.Start n h = absurd h
  by-way (target.Attr place.Synt a) zero way.Behind n h = absurd h
  by-way (target.Attr place.Synt a) (suc k) way.Synthesized n h = absurd h
  by-way (target.Attr place.Synt a) (suc k) way.Inherited n h = absurd h
  by-way (target.Attr place.Synt a) (suc k) way.Start n h = absurd h
  by-way (target.Attr place.Synt a) (suc k) way.Behind n h = absurd h
  by-way (target.Attr place.Inh a) zero way.Synthesized n h = absurd h
  by-way (target.Attr place.Inh a) zero way.Inherited n h = absurd h
  by-way (target.Attr place.Inh a) zero way.Start n h = absurd h
  by-way (target.Attr place.Inh a) zero way.Behind n h = absurd h
  by-way (target.Attr place.Inh a) (suc k) way.Synthesized n h = absurd h
  by-way (target.Attr place.Inh a) (suc k) way.Inherited n h = absurd h
  by-way (target.Attr place.Inh a) (suc k) way.Start n h = absurd h
  by-way (target.Attr place.Inh a) (suc k) way.Behind n h = absurd h
  by-way (target.Attr place.This a) zero way.Synthesized n h = absurd h
  by-way (target.Attr place.This a) zero way.Inherited n h = absurd h
  by-way (target.Attr place.This a) zero way.Start n h = absurd h
  by-way (target.Attr place.This a) zero way.Behind n h = absurd h
  by-way (target.Attr place.This a) (suc k) way.Synthesized n h = absurd h
  by-way (target.Attr place.This a) (suc k) way.Inherited n h = absurd h
  by-way (target.Attr place.This a) (suc k) way.Start n h = absurd h
  by-way (target.Attr place.This a) (suc k) way.Behind n h = absurd h
  by-way (target.Attr place.Tail a) zero way.Synthesized n h = absurd h
  by-way (target.Attr place.Tail a) zero way.Inherited n h = absurd h
  by-way (target.Attr place.Tail a) zero way.Start n h = absurd h
  by-way (target.Attr place.Tail a) zero way.Behind n h = absurd h
  by-way (target.Attr place.Tail a) (suc k) way.Synthesized n h = absurd h
  by-way (target.Attr place.Tail a) (suc k) way.Inherited n h = absurd h
  by-way (target.Attr place.Tail a) (suc k) way.Start n h = absurd h
  by-way (target.Attr place.Tail a) (suc k) way.Behind n h = absurd h
  by-way (target.Start a) zero way.Synthesized n h = absurd h
  by-way (target.Start a) zero way.Inherited n h = absurd h
  by-way (target.Start a) zero way.Behind n h = absurd h
  by-way (target.Start a) (suc k) way.Synthesized n h = absurd h
  by-way (target.Start a) (suc k) way.Inherited n h = absurd h
  by-way (target.Start a) (suc k) way.Start n h = absurd h
  by-way (target.Start a) (suc k) way.Behind n h = absurd h
  by-way target.Out zero way.Synthesized n h = absurd h
  by-way target.Out zero way.Inherited n h = absurd h
  by-way target.Out zero way.Start n h = absurd h
  by-way target.Out zero way.Behind n h = absurd h
  by-way target.Out (suc k) way.Synthesized n h = absurd h
  by-way target.Out (suc k) way.Inherited n h = absurd h
  by-way target.Out (suc k) way.Start n h = absurd h
  by-way target.Out (suc k) way.Behind n h = absurd h
  by-way (target.Message s m) zero way.Synthesized n h = absurd h
  by-way (target.Message s m) zero way.Inherited n h = absurd h
  by-way (target.Message s m) zero way.Start n h = absurd h
  by-way (target.Message s m) zero way.Behind n h = absurd h
  by-way (target.Message s m) (suc k) way.Synthesized n h = absurd h
  by-way (target.Message s m) (suc k) way.Inherited n h = absurd h
  by-way (target.Message s m) (suc k) way.Start n h = absurd h
  by-way (target.Message s m) (suc k) way.Behind n h = absurd h

  pub target-aim : (t : Target) (k : ℕ) (aim : Aim) → IsRuleTarget spec r c t k (goal_of aim) → aim_in_rule chains r t ≡ Some (let q : ℕ × Aim = (k, aim) in q)
  target-aim t k aim h = by-way t k aim.way aim.name h
