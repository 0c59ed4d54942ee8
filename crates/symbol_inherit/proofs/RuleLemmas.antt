-- The index of a rule has what its computations give values to.
use Rattle.std.specs.Prelude.{option_map}
use Rattle.std.proofs.Common.{◌≡◌, ℕ, List, Some, ap, ◌∙◌}
use Rattle.lido_syntax.specs.declared.spec.Spec.{Spec}
use Rattle.lido_syntax.specs.declared.spec.Comp.{Comp}
use Rattle.lido_syntax.specs.declared.spec.RuleItem.{RuleItem}
use Rattle.lido_syntax.specs.Computation.{InRule}
use Rattle.computation_aims.specs.Aims.{goal_of, aim_in_rule}
use Rattle.symbol_inherit.specs.Notes.{own_of, placed, rule_note, rule_notes}
use Rattle.symbol_inherit.specs.Index.{noted, Holds}
use Rattle.computation_aims.specs.Aims.{AreChains}
use Rattle.computation_aims.proofs.RuleAims.{aim-target, target-aim}
use Rattle.symbol_inherit.specs.Rules.{HasRule, HasRuleAt}
use Rattle.computation_aims.specs.declared.aims.Aim.{Aim}
use Rattle.symbol_inherit.specs.declared.notes.Own.{Own}
use Rattle.symbol_inherit.specs.declared.notes.Note.{Note}
use Rattle.symbol_inherit.specs.declared.index.Index.{Index}
use Rattle.symbol_inherit.proofs.OwnLemmas.{some-mapped, contains-filtered, filtered-contains}

module _ (spec : Spec) (chains : List ℕ) (are : AreChains spec chains) (r : RuleItem) (index : Index) (holds : Holds (rule_notes chains r) index) where
  pub has-rule : HasRule spec r index
  has-rule = record { each = each; all = all }
    where
      each : (k : ℕ) (aim : Aim) (own : Own) → noted index k aim ≡ Some own → (c : Comp) × InRule spec r k (goal_of aim) c × (own_of c ≡ own)
      each k aim own e =
          let (c, of, f) = contains-filtered (rule_note chains r) r.body (record { place = k; aim = aim; own = own }) (holds.each k aim own e) in
          let (p, g, h) = some-mapped (placed c) (aim_in_rule chains r c.target) (record { place = k; aim = aim; own = own }) f in
          let place : p.0 ≡ k = ap (λ (n : Note). n.place) h in
          let same : p.1 ≡ aim = ap (λ (n : Note). n.aim) h in
          (c, (of, aim-target spec chains are r c c.target k aim (g ∙ (λ i. Some (place i, same i)))), ap (λ (n : Note). n.own) h)

      all : (k : ℕ) (aim : Aim) (c : Comp) → InRule spec r k (goal_of aim) c → (own : Own) × (noted index k aim ≡ Some own)
      all k aim c (of, h) =
          holds.all (record { place = k; aim = aim; own = own_of c })
          (filtered-contains (rule_note chains r) r.body c _ of (ap (option_map (placed c)) (target-aim spec chains are r c c.target k aim h)))

pub rule-at : (spec : Spec) (r : RuleItem) (index : Index) → HasRule spec r index → (k : ℕ) → HasRuleAt spec r k index
rule-at spec r index has k = record { each = λ aim own e. has.each k aim own e; all = λ aim c h. has.all k aim c h }
