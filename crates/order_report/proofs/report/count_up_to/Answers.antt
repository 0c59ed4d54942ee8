use Rattle.std.proofs.Common.{List, ap, take, ◌∙◌}
use Rattle.lido_base.specs.declared.ids.SymId.{SymId}
use Rattle.order_report.specs.Report.{occurrences}
use Rattle.order_report.proofs.ReportLemmas.{counted}
use Rattle.order_report.proofs.report.count_up_to.Goals as goal

pub returns : goal.returns
returns c = counted c.args.symbol c.args.rule.now c.args.occ _ _ c.from-left.ensures
    (c.count-right.ensures.is ∙ ap (λ (l : List SymId). occurrences c.args.symbol (take c.args.occ l)) c.as_slice.ensures)
