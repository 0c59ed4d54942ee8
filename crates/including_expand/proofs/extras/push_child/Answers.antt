use Rattle.std.proofs.Common.{◌≡◌, ◌∙◌, Bool, List, None, ap, sym, append-nil}
use Rattle.least_paths.specs.Graph.{is_in}
use Rattle.need_graphs.proofs.ListLemmas.{numbered-next}
use Rattle.including_sets.specs.declared.sets.PairSet.{PairSet}
use Rattle.including_expand.specs.Extras.{needs_at, comp_of}
use Rattle.including_expand.proofs.MadeLemmas.{comp-then, comp-else}
use Rattle.including_expand.proofs.extras.push_child.Goals as goal
use Rattle.including_expand.proofs.extras.push_child.Goals.{then-is_set+in_ok-push, else-is_set}

pub loop-i-preserved : goal.loop-i-preserved
loop-i-preserved c =
    let k = c.args.rule.0 in
    let left = c.args.left.0 in
    let j = c.args.j in
    let child = c.args.child in
    let i = c.loop-i.i in
    let needs = c.args.needs.now in
    let set = c.index-sets-i.result in
    let h = comp_of needs k left (j, child) in
    let tested : c.is_set.result ≡ is_in (needs_at needs i) child.0 = c.is_set.ensures ∙ ap (λ (r : List Bool). is_in r child.0) c.needs_at.ensures in
    let here = ap (λ (s : PairSet). h (i, s)) (sym c.index-sets-i.is) in
    elim c.if-is_set.branch [
      | then-is_set+in_ok-push w ↦ ap (λ v. v.items) w.comps-is
          ∙ numbered-next h c.args.sets.now i set _ c.args.comps.now.items c.loop-i.comps.items _
          c.loop-i-test.true (here ∙ comp-then needs k left j child i set w.handed.result (sym tested ∙ w.if-is_set.true) w.handed.ensures) c.loop-i.invariant w.in_ok-push.ensures.items
      | else-is_set w ↦ ap (λ v. v.items) w.comps-is
          ∙ numbered-next h c.args.sets.now i set None c.args.comps.now.items c.loop-i.comps.items c.loop-i.comps.items
          c.loop-i-test.true (here ∙ comp-else needs k left (j, child) (i, set) (sym tested ∙ w.if-is_set.false)) c.loop-i.invariant (sym (append-nil c.loop-i.comps.items))
    ]
