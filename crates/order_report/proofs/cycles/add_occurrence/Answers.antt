use Rattle.std.proofs.Common.{List, ap, get_or, ◌∙◌}
use Rattle.std.proofs.lemmas.Option.{slice_get-get_or}
use Rattle.lido_base.specs.declared.ids.StrId.{StrId}
use Rattle.order_report.specs.CycleLines.{text_at}
use Rattle.order_report.proofs.PutsLemmas.{extends_same, extends_then}
use Rattle.order_report.proofs.CyclesLemmas.{named_is}
use Rattle.order_report.proofs.cycles.add_occurrence.Goals as goal

pub returns : goal.returns
returns g c =
    let symbol = get_or c.args.occs.now c.args.occ (record { 0 = 0 }) in
    extends_same _ _ _ _ _ _ _ _
    (named_is c.args.strings.now c.args.names.now c.args.occs.now c.args.occ symbol c.text_at-text.result.now c.count-all.result c.count-index.result
    (slice_get-get_or c.args.occs.now c.args.occ (record { 0 = 0 }) c.if-occ-occs.false)
    (c.text_at-text.ensures ∙ ap (λ (l : List StrId). text_at c.args.strings.now l symbol.0) c.as_slice.ensures) c.count-all.ensures.is c.count-index.ensures.is)
    (extends_then _ _ c.add-named.ensures c.add_index.ensures)
