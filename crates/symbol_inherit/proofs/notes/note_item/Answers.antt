use Rattle.std.proofs.Common.{◌<◌, ◌∙◌, ap, sym, subst, length, List}
use Rattle.std.specs.List.{slice_index_or}
use Rattle.lido_syntax.specs.declared.spec.Name.{Name}
use Rattle.lido_syntax.specs.Production.{name_of}
use Rattle.symbol_inherit.specs.Notes.{numbered_notes}
use Rattle.symbol_inherit.specs.Rows.{row_number}
use Rattle.symbol_inherit.proofs.Lists.{joined-more}
use Rattle.symbol_inherit.proofs.notes.note_item.Goals as goal

pub loop-name-preserved : goal.loop-name-preserved
loop-name-preserved c =
    let f = λ (name : Name). numbered_notes c.args.item.now.body (row_number c.args.rows.now (name_of name)) in
    let none : Name = record { at = 0; id = record { 0 = 0 } } in
    joined-more f c.args.item.now.names c.loop-name.name-index none (numbered_notes c.as_slice.result.now c.symbol_number.result) c.args.notes.now.items c.loop-name.notes.items _
    (subst (λ (l : List Name). c.loop-name.name-index < length l) c.as_slice-name-items.ensures c.loop-name-test.true)
    (ap (λ (l : List Name). numbered_notes c.args.item.now.body (row_number c.args.rows.now (name_of (slice_index_or l c.loop-name.name-index none)))) (sym c.as_slice-name-items.ensures)
    ∙ ap (numbered_notes c.args.item.now.body) (sym c.symbol_number.ensures) ∙ ap (λ b. numbered_notes b c.symbol_number.result) (sym c.as_slice.ensures))
    c.loop-name.invariant c.in_ok-note_numbered.ensures
