use Rattle.std.proofs.Common.{◌∙◌, [], Some, None, ap, sym, append-nil}
use Rattle.lido_base.specs.declared.ids.SymId.{SymId}
use Rattle.constituents_expand.specs.Weights.{child_slot}
use Rattle.need_graphs.proofs.ListLemmas.{numbered-next}
use Rattle.constituents_expand.proofs.weights.child_slots.Goals as goal
use Rattle.constituents_expand.proofs.weights.child_slots.Goals.{in-Some+in_ok-push, in_default}

pub loop-j-preserved : goal.loop-j-preserved
loop-j-preserved c =
    let h = child_slot c.args.gathering.now in
    let none : SymId = record { 0 = 0 } in
    elim c.match-child_slot.branch [
      | in-Some+in_ok-push w ↦ ap (λ v. v.items) w.slots-is
          ∙ numbered-next h c.args.right.now c.loop-j.j none (Some w.in-Some.slot) [] c.loop-j.slots.items _
          c.loop-j-test.true (sym w.in-Some.ensures) c.loop-j.invariant w.in_ok-push.ensures.items
      | in_default w ↦ ap (λ v. v.items) w.slots-is
          ∙ numbered-next h c.args.right.now c.loop-j.j none None [] c.loop-j.slots.items c.loop-j.slots.items
          c.loop-j-test.true (sym c.child_slot.ensures ∙ w.in_default.is) c.loop-j.invariant (sym (append-nil c.loop-j.slots.items))
    ]
