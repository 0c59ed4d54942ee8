use Rattle.std.proofs.Common.{◌<◌, ◌++◌, ap, subst, ◌∙◌, length, List, get_or}
use Rattle.lido_syntax.specs.declared.spec.Name.{Name}
use Rattle.lido_syntax.specs.declared.spec.Comp.{Comp}
use Rattle.lido_syntax.specs.Production.{name_of}
use Rattle.lido_symbols.proofs.CollectedLemmas.{collected_more}
use Rattle.table_faults.specs.Doubles.{all_if_shared}
use Rattle.table_faults.proofs.doubles.note_item.Goals as goal

pub loop-name-preserved : goal.loop-name-preserved
loop-name-preserved c =
    let none : Name = record { at = 0; id = record { 0 = 0 } } in
    let x : Name = get_or c.as_slice-name-items.result.now c.loop-name.name-index none in
    collected_more (λ (x : Name). all_if_shared c.args.shared.now c.args.item.now.body (name_of x)) c.args.item.now.names c.loop-name.name-index x none c.args.all.now.items c.loop-name.all.items _
    (subst (λ (l : List Name). c.loop-name.name-index < length l) c.as_slice-name-items.ensures c.loop-name-test.true)
    (ap (λ (l : List Name). get_or l c.loop-name.name-index none) c.as_slice-name-items.ensures)
    c.loop-name.invariant
    (c.in_ok-note_shared.ensures ∙ ap (λ (body : List Comp). c.loop-name.all.items ++ all_if_shared c.args.shared.now body (name_of x)) c.as_slice.ensures)
