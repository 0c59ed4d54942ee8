use Rattle.std.proofs.Common.{◌≡◌, ◌∙◌, reverse, sym, subst, ap, arith, [], ◌∷◌, List, length, length-append, Some}
use Rattle.std.specs.Prelude.{slice_get}
use Rattle.std.proofs.lemmas.List.{reverse-reverse}
use Rattle.std.proofs.lemmas.Option.{slice_get-get_or}
use Rattle.flat_grammar.specs.declared.plan.VisitClass.{VisitClass}
use Rattle.partitions.proofs.ClassesLemmas.{classes-push}
use Rattle.partitions.proofs.classes.visits_of.Goals as goal

pub loop-levels-preserved : goal.loop-levels-preserved
loop-levels-preserved c = record {
  count = ap (λ (xs : List VisitClass). length xs) c.in_ok-push.ensures.items ∙ omega (arith, length-append c.loop-levels.visits.items (c.in_ok-visit_of.field-0 ∷ []), c.loop-levels.invariant.count);
  classes = λ symbols rules x all. classes-push symbols rules x c.loop-levels.visits.items c.push.new.self.items c.loop-levels.levels-index c.in_ok-visit_of.field-0 c.loop-levels.invariant.count c.in_ok-push.ensures.items
      (c.in_ok-visit_of.ensures symbols rules x c.loop-levels.levels-index
      (all c.loop-levels.levels-index c.levels-item.result (slice_get-get_or c.args.all.now c.loop-levels.levels-index c.levels-item.result c.loop-levels-test.true ∙ ap Some (sym c.levels-item.is))))
      (c.loop-levels.invariant.classes symbols rules x all);
}

pub returns-clause-classes : goal.returns-clause-classes
returns-clause-classes c = λ symbols rules x all k visit at. c.loop-levels.invariant.classes symbols rules x all k visit (subst (λ (xs : List VisitClass). slice_get xs k ≡ Some visit)
    (ap reverse (c.from_vec.ensures ∙ c.reverse.ensures.items) ∙ reverse-reverse c.loop-levels.visits.items) at)
