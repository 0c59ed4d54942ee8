use Rattle.std.proofs.Common.{◌<◌, ◌∙◌, ap, sym, subst, length, List, []}
use Rattle.std.specs.List.{slice_index_or}
use Rattle.lido_syntax.specs.declared.spec.Comp.{Comp}
use Rattle.symbol_inherit.specs.Notes.{rule_note}
use Rattle.symbol_inherit.proofs.Lists.{pushed-some, pushed-none}
use Rattle.symbol_inherit.proofs.rule_notes.rule_notes.Goals as goal
use Rattle.symbol_inherit.proofs.rule_notes.rule_notes.Goals.{in-Some+in_ok-push, in_default}

pub loop-comp-preserved : goal.loop-comp-preserved
loop-comp-preserved c =
    let h = λ (d : Comp). rule_note c.args.chains.now c.args.rule.now d in
    let within : c.loop-comp.comp-index < length c.args.rule.now.body = subst (λ (l : List Comp). c.loop-comp.comp-index < length l) c.as_slice-comp-items.ensures c.loop-comp-test.true in
    let at = ap (λ (l : List Comp). slice_index_or l c.loop-comp.comp-index c.comp-item.result) (sym c.as_slice-comp-items.ensures) ∙ sym c.comp-item.is in
    let made = ap h at ∙ sym (c.note_of.ensures c.args.rule.now c.in_ok-production.ensures) in
    elim c.match-note_of.branch [
      | in-Some+in_ok-push w ↦ ap (λ v. v.items) w.notes-is
          ∙ pushed-some h c.args.rule.now.body c.loop-comp.comp-index c.comp-item.result w.in-Some.note [] c.loop-comp.notes.items _
          within (made ∙ w.in-Some.is) c.loop-comp.invariant w.in_ok-push.ensures.items
      | in_default w ↦ ap (λ v. v.items) w.notes-is
          ∙ pushed-none h c.args.rule.now.body c.loop-comp.comp-index c.comp-item.result [] c.loop-comp.notes.items within (made ∙ w.in_default.is) c.loop-comp.invariant
    ]
