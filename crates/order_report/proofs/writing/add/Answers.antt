use Rattle.order_report.proofs.PutsLemmas.{extends_done}
use Rattle.order_report.proofs.writing.add.Goals as goal

pub returns-in-Ok : goal.returns-in-Ok
returns-in-Ok g c = rw c.in-Ok.is (extends_done _ _ c.in-Ok.done c.args.piece.now _ _ _ c.put.ensures)
