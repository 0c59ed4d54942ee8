use Rattle.std.proofs.Common.{inl, inr, sym, ◌⊎◌, ◌≡◌, ◌∙◌, ◌+◌, ◌++◌, [], ◌∷◌, ap, subst}
use Rattle.flat_grammar.specs.declared.plan.PlanItem.TheVariants.{Eval, Visit, Leave}
use Rattle.flat_grammar.specs.declared.plan.VisitClass.{VisitClass}
use Rattle.flat_grammar.specs.Construction.{IsChosen}
use Rattle.visit_sequences.specs.Steps.{visits_there, HandsOn, HasBit, Passes}
use Rattle.visit_sequences.proofs.TakeLemmas.{taken-eval, taken-visit, taken-leave}
use Rattle.visit_sequences.proofs.progress.Progress.take.Goals as goal

pub returns-in-Eval-clause-follows : goal.returns-in-Eval-clause-follows
returns-in-Eval-clause-follows c =
    let flat = c.args.flat.now in
    let visits = c.args.parts.now.visits in
    let p = c.args.self.now in
    let q = c.evaluate.new.self in
    let o = c.in-Eval.goal in
    let e = c.evaluate.ensures in
    let chosen = subst (λ i. IsChosen flat.symbols flat.rules visits c.args.rule.now p.items.items i) c.in-Eval.is c.requires.chosen in
    let items : q.items.items ≡ p.items.items ++ Eval o ∷ [] = ap (λ v. v.items) e.items ∙ (c.in_ok-push.ensures.items ∙ ap (λ i. p.items.items ++ i ∷ []) c.in-Eval.is) in
    taken-eval flat.symbols flat.rules flat.shapes flat.root flat.well_formed visits c.requires.visits c.args.rule.now c.requires.rule p q c.requires.follows o chosen items e.rest.0 e.rest.1 e.each.0 e.each.1 e.evaluated e.at_hand

pub returns-in-Visit-clause-follows : goal.returns-in-Visit-clause-follows
returns-in-Visit-clause-follows c =
    let flat = c.args.flat.now in
    let visits = c.args.parts.now.visits in
    let p = c.args.self.now in
    let q = c.visit.new.self in
    let k = c.in-Visit.occ in
    let v = c.in-Visit.visit in
    let e = c.visit.ensures in
    let chosen = subst (λ i. IsChosen flat.symbols flat.rules visits c.args.rule.now p.items.items i) c.in-Visit.is c.requires.chosen in
    let items : q.items.items ≡ p.items.items ++ Visit k v ∷ [] = ap (λ v. v.items) e.same.0 ∙ (c.in_ok-push.ensures.items ∙ ap (λ i. p.items.items ++ i ∷ []) c.in-Visit.is) in
    taken-visit flat.symbols flat.rules flat.shapes flat.root flat.well_formed visits c.requires.visits c.args.rule.now c.requires.rule p q c.requires.follows k v chosen items e.same.1 e.same.2 e.each e.made
    (subst (λ l. Passes (λ (s : VisitClass). s.synthesized) (visits_there l c.args.rule.now k) v p.at_hand.items q.at_hand.items k) c.as_slice-visits.ensures e.at_hand)

pub returns-in-Leave-clause-follows : goal.returns-in-Leave-clause-follows
returns-in-Leave-clause-follows c =
    let flat = c.args.flat.now in
    let visits = c.args.parts.now.visits in
    let p = c.args.self.now in
    let q = c.leave.new.self in
    let v = c.in-Leave.visit in
    let e = c.leave.ensures in
    let chosen = subst (λ i. IsChosen flat.symbols flat.rules visits c.args.rule.now p.items.items i) c.in-Leave.is c.requires.chosen in
    let items : q.items.items ≡ p.items.items ++ Leave v ∷ [] = ap (λ v. v.items) e.same.0 ∙ (c.in_ok-push.ensures.items ∙ ap (λ i. p.items.items ++ i ∷ []) c.in-Leave.is) in
    taken-leave flat.symbols flat.rules flat.shapes flat.root flat.well_formed visits c.requires.visits c.args.rule.now c.requires.rule p q c.requires.follows v chosen items e.same.1 e.same.2 e.each e.segment
    (subst (λ l. Passes (λ (s : VisitClass). s.inherited) (visits_there l c.args.rule.now 0) (v + 1) p.at_hand.items q.at_hand.items 0) c.as_slice-visits.ensures e.at_hand)

pub returns-in-Leave-clause-grows : goal.returns-in-Leave-clause-grows
returns-in-Leave-clause-grows c =
    let visits = c.args.parts.now.visits in
    let r = c.args.rule.now in
    let p = c.args.self.now in
    let q = c.leave.new.self in
    let v = c.in-Leave.visit in
    let e = c.leave.ensures in
    let passes = subst (λ l. Passes (λ (s : VisitClass). s.inherited) (visits_there l r 0) (v + 1) p.at_hand.items q.at_hand.items 0) c.as_slice-visits.ensures e.at_hand in
    record {
      evaluated = λ u b. subst (λ s. HasBit s.items u) (sym e.same.1) b;
      stays = λ u b. (passes u).1 (inl b);
      given = λ u b. subst (λ i. HasBit p.at_hand.items u ⊎ HandsOn visits r i u) (sym c.in-Leave.is) (elim ((passes u).0 b) [ inl o ↦ inl o | inr x ↦ inr (x.0, x.3) ]);
    }
