use Rattle.order_report.proofs.LinesLemmas.{line_whole}
use Rattle.order_report.proofs.laws.lines_are_whole.Goals as goal

pub returns : goal.returns
returns c = line_whole
