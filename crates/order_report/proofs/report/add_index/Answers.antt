use Rattle.std.proofs.Common.{◌∙◌}
use Rattle.order_report.proofs.PutsLemmas.{extends_same}
use Rattle.order_report.proofs.ReportLemmas.{with_index}
use Rattle.order_report.proofs.report.add_index.Goals as goal

pub returns : goal.returns
returns g c = extends_same _ _ _ _ _ _ _ _ (with_index c.args.occurrences c.args.index c.as_bytes.result.now c.if-occurrences-le1.false (c.as_bytes.ensures ∙ c.of-index.ensures)) c.add_pieces.ensures
