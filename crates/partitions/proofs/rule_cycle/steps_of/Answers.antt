use Rattle.std.proofs.Common.{◌≡◌, inl, inr, List, [], ◌∷◌, Some, length, length-append, sym, subst, ap, ◌∙◌, arith}
use Rattle.std.specs.Prelude.{slice_get}
use Rattle.flat_grammar.specs.declared.plan.CycleStep.{CycleStep}
use Rattle.partitions.specs.RuleGraph.{IsStepOf}
use Rattle.partitions.proofs.PeelingLemmas.{pushed-get}
use Rattle.partitions.proofs.rule_cycle.steps_of.Goals as goal

pub loop-place-preserved : goal.loop-place-preserved
loop-place-preserved c = record {
  count = ap (λ (xs : List CycleStep). length xs) c.in_ok-push.ensures.items ∙ omega (arith, length-append c.loop-place.steps.items (c.step_at.result ∷ []), c.loop-place.invariant.count);
  each = λ j s at. elim (pushed-get c.loop-place.steps.items c.step_at.result j s (subst (λ (xs : List CycleStep). slice_get xs j ≡ Some s) c.in_ok-push.ensures.items at)) [
    | inl old ↦ c.loop-place.invariant.each j s old
    | inr new ↦ subst (λ (z : CycleStep). IsStepOf c.args.flat.now.symbols c.args.flat.now.rules c.args.rule.now c.args.occs.now c.args.cycle.now j z) new.1
        (subst (λ k. IsStepOf c.args.flat.now.symbols c.args.flat.now.rules c.args.rule.now c.args.occs.now c.args.cycle.now k c.step_at.result) (sym (new.0 ∙ c.loop-place.invariant.count)) c.step_at.ensures)
  ];
}
