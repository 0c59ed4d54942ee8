use Rattle.std.proofs.Common.{◌≡◌, ◌∙◌, Bool, List, Some, None, ap, sym, append-nil}
use Rattle.least_paths.specs.Graph.{is_in}
use Rattle.need_graphs.proofs.ListLemmas.{numbered-next}
use Rattle.including_sets.specs.declared.sets.PairSet.{PairSet}
use Rattle.including_expand.specs.Extras.{needs_at, made_attr, attr_of}
use Rattle.including_expand.proofs.MadeLemmas.{attr-then, attr-else}
use Rattle.including_expand.proofs.extras.push_symbol.Goals as goal
use Rattle.including_expand.proofs.extras.push_symbol.Goals.{then-is_set+in_ok-push, else-is_set}

pub loop-i-preserved : goal.loop-i-preserved
loop-i-preserved c =
    let x = c.args.symbol in
    let i = c.loop-i.i in
    let needs = c.args.needs.now in
    let set = c.index-sets-i.result in
    let tested : c.is_set.result ≡ is_in (needs_at needs i) x = c.is_set.ensures ∙ ap (λ (r : List Bool). is_in r x) c.needs_at.ensures in
    let here = ap (λ (s : PairSet). attr_of needs x (i, s)) (sym c.index-sets-i.is) in
    elim c.if-is_set.branch [
      | then-is_set+in_ok-push w ↦ ap (λ v. v.items) w.attrs-is
          ∙ numbered-next (attr_of needs x) c.args.sets.now i set (Some (made_attr x (i, set))) c.args.attrs.now.items c.loop-i.attrs.items _
          c.loop-i-test.true (here ∙ attr-then needs x (i, set) (sym tested ∙ w.if-is_set.true)) c.loop-i.invariant w.in_ok-push.ensures.items
      | else-is_set w ↦ ap (λ v. v.items) w.attrs-is
          ∙ numbered-next (attr_of needs x) c.args.sets.now i set None c.args.attrs.now.items c.loop-i.attrs.items c.loop-i.attrs.items
          c.loop-i-test.true (here ∙ attr-else needs x (i, set) (sym tested ∙ w.if-is_set.false)) c.loop-i.invariant (sym (append-nil c.loop-i.attrs.items))
    ]
