use Rattle.std.proofs.Common.{◌∙◌, Some, None, ap, sym, append-nil}
use Rattle.rule_tables.specs.declared.forced.Force.{Force}
use Rattle.rule_tables.specs.declared.forced.Goal.TheVariants.{Attr}
use Rattle.need_graphs.specs.Contexts.{context_by}
use Rattle.need_graphs.proofs.ListLemmas.{filtered-next}
use Rattle.need_graphs.proofs.contexts.note_contexts.Goals as goal
use Rattle.need_graphs.proofs.contexts.note_contexts.Goals.{in-Some+in_ok-push, in_default}

pub loop-force-preserved : goal.loop-force-preserved
loop-force-preserved c =
    let h = context_by c.args.numbers.now c.args.rule.now in
    let none : Force = record { occ = 0; goal = Attr (record { 0 = 0 }); context = 0; number = 0 } in
    elim c.match-context.branch [
      | in-Some+in_ok-push w ↦ ap (λ v. v.items) w.found-is
          ∙ filtered-next h c.args.forces.now c.loop-force.force-index none (Some w.in-Some.symbol) c.args.found.now.items c.loop-force.found.items _
          c.loop-force-test.true (sym w.in-Some.ensures) c.loop-force.invariant w.in_ok-push.ensures.items
      | in_default w ↦ ap (λ v. v.items) w.found-is
          ∙ filtered-next h c.args.forces.now c.loop-force.force-index none None c.args.found.now.items c.loop-force.found.items c.loop-force.found.items
          c.loop-force-test.true (sym c.context.ensures ∙ w.in_default.is) c.loop-force.invariant (sym (append-nil c.loop-force.found.items))
    ]
