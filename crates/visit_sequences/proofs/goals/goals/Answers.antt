use Rattle.std.proofs.lemmas.List.Elements.{All-push, All-same}
use Rattle.std.proofs.Common.{◌++◌, ◌∷◌, []}
use Rattle.visit_sequences.specs.Steps.{IsGoal}
use Rattle.visit_sequences.proofs.TakeLemmas.{goals-push}
use Rattle.visit_sequences.proofs.goals.goals.Goals as goal

pub loop-comp-preserved : goal.loop-comp-preserved
loop-comp-preserved c =
    let flat = c.args.flat.now in
    let old = c.loop-comp.goals.items in
    let g = c.in_ok-goal.goal in
    let is = IsGoal flat.symbols flat.rules c.args.rule.now in
    record {
      all = goals-push c.args.rule.now.comps c.as_slice-comp-items.result.now c.loop-comp.comp-index old c.push.new.self.items g c.comp-item.result c.as_slice-comp-items.ensures c.loop-comp-test.true c.comp-item.is
          c.in_ok-push.ensures.items c.in_ok-goal.ensures.goal c.loop-comp.invariant.all;
      each = All-same is c.push.new.self.items (old ++ g ∷ []) c.in_ok-push.ensures.items (All-push is old g c.loop-comp.invariant.each c.in_ok-goal.ensures.waits);
    }
