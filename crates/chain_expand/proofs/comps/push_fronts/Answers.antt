use Rattle.std.proofs.Common.{◌∙◌, None, option_map, ap, sym, append-nil}
use Rattle.chain_expand.specs.Comps.{front_comp}
use Rattle.chain_expand.specs.declared.walk.Walk.{Walk}
use Rattle.need_graphs.proofs.ListLemmas.{numbered-next}
use Rattle.chain_expand.proofs.CompLemmas.{front-made}
use Rattle.chain_expand.proofs.comps.push_fronts.Goals as goal
use Rattle.chain_expand.proofs.comps.push_fronts.Goals.{in-Some+in_ok-push, in_default}

pub loop-i-preserved : goal.loop-i-preserved
loop-i-preserved c =
    let k = c.args.rule.0 in
    let j = c.args.j in
    let i = c.loop-i.i in
    let walk = c.index-walks-i.result in
    let here = ap (λ (w : Walk). front_comp k j (i, w)) (sym c.index-walks-i.is) in
    elim c.match-front.branch [
      | in-Some+in_ok-push w ↦ ap (λ v. v.items) w.comps-is
          ∙ numbered-next (front_comp k j) c.args.walks.now i walk _ c.args.comps.now.items c.loop-i.comps.items _
          c.loop-i-test.true (here ∙ front-made k j i walk w.in-Some.source w.term.result (sym w.in-Some.ensures) w.term.ensures) c.loop-i.invariant w.in_ok-push.ensures.items
      | in_default w ↦ ap (λ v. v.items) w.comps-is
          ∙ numbered-next (front_comp k j) c.args.walks.now i walk None c.args.comps.now.items c.loop-i.comps.items c.loop-i.comps.items
          c.loop-i-test.true (here ∙ ap (option_map _) (sym c.front.ensures ∙ w.in_default.is)) c.loop-i.invariant (sym (append-nil c.loop-i.comps.items))
    ]
