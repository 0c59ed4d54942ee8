use Rattle.order_report.proofs.PutsLemmas.{extends_same, extends_then}
use Rattle.order_report.proofs.CyclesLemmas.{closing_whole}
use Rattle.order_report.proofs.cycles.add_closing.Goals as goal

pub returns-in-len1-up : goal.returns-in-len1-up
returns-in-len1-up g c =
    extends_same _ _ _ _ _ _ _ _ (closing_whole c.args.strings.now c.args.names.now c.args.occs.now c.args.steps.now _ c.in-len1-up.len_at_least) (extends_then _ _ c.add-space.ensures c.add_vertex.ensures)
