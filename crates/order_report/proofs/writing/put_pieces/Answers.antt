use Rattle.std.proofs.Common.{ℕ, List, [], Bor}
use Rattle.order_report.proofs.PutsLemmas.{stops_within}
use Rattle.order_report.proofs.writing.put_pieces.Goals as goal

pub returns-in-Err : goal.returns-in-Err
returns-in-Err g c =
    stops_within (λ (piece : Bor (List ℕ)). piece.now) c.args.pieces.now c.loop-piece.piece-index (record { ref_ptr = (0, 0); now = [] }) c.loop-piece-test.true
    _ _ _ _ _ _ _ _ _ c.loop-piece.invariant c.in-Err.ensures
