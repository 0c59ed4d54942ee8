use Rattle.std.proofs.Common.{◌∙◌, Some, None, ap, sym, append-nil}
use Rattle.constituents_expand.specs.Extras.{attr_of}
use Rattle.need_graphs.proofs.ListLemmas.{filtered-next}
use Rattle.constituents_expand.proofs.extras.push_symbol.Goals as goal
use Rattle.constituents_expand.proofs.extras.push_symbol.Goals.{in-Some+in_ok-push, in_default}

pub loop-gathering-preserved : goal.loop-gathering-preserved
loop-gathering-preserved c =
    let h = attr_of c.args.symbol in
    let g = c.gathering-item.result in
    let i = c.loop-gathering.gathering-index in
    elim c.match-attr_of.branch [
      | in-Some+in_ok-push w ↦ ap (λ v. v.items) w.attrs-is
          ∙ filtered-next h c.args.gatherings.now i g (Some w.in-Some.attr) c.args.attrs.now.items c.loop-gathering.attrs.items _
          c.loop-gathering-test.true (ap h (sym c.gathering-item.is) ∙ sym w.in-Some.ensures) c.loop-gathering.invariant w.in_ok-push.ensures.items
      | in_default w ↦ ap (λ v. v.items) w.attrs-is
          ∙ filtered-next h c.args.gatherings.now i g None c.args.attrs.now.items c.loop-gathering.attrs.items c.loop-gathering.attrs.items
          c.loop-gathering-test.true (ap h (sym c.gathering-item.is) ∙ sym c.attr_of.ensures ∙ w.in_default.is) c.loop-gathering.invariant (sym (append-nil c.loop-gathering.attrs.items))
    ]
