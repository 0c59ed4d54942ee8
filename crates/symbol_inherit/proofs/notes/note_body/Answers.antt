use Rattle.std.proofs.Common.{◌∙◌, ap, sym, option_map}
use Rattle.lido_syntax.specs.declared.spec.Comp.{Comp}
use Rattle.symbol_inherit.proofs.Lists.{pushed-some, pushed-none}
use Rattle.computation_aims.specs.Aims.{aim_in_symbol}
use Rattle.symbol_inherit.specs.Notes.{note}
use Rattle.symbol_inherit.proofs.notes.note_body.Goals as goal
use Rattle.symbol_inherit.proofs.notes.note_body.Goals.{in-Some+in_ok-push, in_default}

pub loop-comp-preserved : goal.loop-comp-preserved
loop-comp-preserved c =
    let h = λ (d : Comp). option_map (note c.args.symbol d) (aim_in_symbol d.target) in
    elim c.match-symbol_aim.branch [
      | in-Some+in_ok-push w ↦ ap (λ v. v.items) w.notes-is
          ∙ pushed-some h c.args.body.now c.loop-comp.comp-index c.comp-item.result (note c.args.symbol c.comp-item.result w.in-Some.aim) c.args.notes.now.items c.loop-comp.notes.items _
          c.loop-comp-test.true (ap h (sym c.comp-item.is) ∙ ap (option_map (note c.args.symbol c.comp-item.result)) (sym w.in-Some.ensures)) c.loop-comp.invariant w.in_ok-push.ensures.items
      | in_default w ↦ ap (λ v. v.items) w.notes-is
          ∙ pushed-none h c.args.body.now c.loop-comp.comp-index c.comp-item.result c.args.notes.now.items c.loop-comp.notes.items
          c.loop-comp-test.true (ap h (sym c.comp-item.is) ∙ ap (option_map (note c.args.symbol c.comp-item.result)) (sym c.symbol_aim.ensures ∙ w.in_default.is)) c.loop-comp.invariant
    ]
