use Rattle.std.proofs.Common.{◌∙◌, Some, None, ap, sym, append-nil}
use Rattle.constituents_expand.specs.Extras.{comp_of}
use Rattle.need_graphs.proofs.ListLemmas.{filtered-next}
use Rattle.constituents_expand.proofs.extras.push_rule.Goals as goal
use Rattle.constituents_expand.proofs.extras.push_rule.Goals.{in-Some+in_ok-push, in_default}

pub loop-gathering-preserved : goal.loop-gathering-preserved
loop-gathering-preserved c =
    let h = comp_of c.args.number c.args.whole c.args.rule.now in
    let g = c.gathering-item.result in
    let i = c.loop-gathering.gathering-index in
    elim c.match-made.branch [
      | in-Some+in_ok-push w ↦ ap (λ v. v.items) w.comps-is
          ∙ filtered-next h c.args.gatherings.now i g (Some w.in-Some.comp) c.args.comps.now.items c.loop-gathering.comps.items _
          c.loop-gathering-test.true (ap h (sym c.gathering-item.is) ∙ sym c.in_ok-made.ensures ∙ w.in-Some.is) c.loop-gathering.invariant w.in_ok-push.ensures.items
      | in_default w ↦ ap (λ v. v.items) w.comps-is
          ∙ filtered-next h c.args.gatherings.now i g None c.args.comps.now.items c.loop-gathering.comps.items c.loop-gathering.comps.items
          c.loop-gathering-test.true (ap h (sym c.gathering-item.is) ∙ sym c.in_ok-made.ensures ∙ w.in_default.is) c.loop-gathering.invariant (sym (append-nil c.loop-gathering.comps.items))
    ]
