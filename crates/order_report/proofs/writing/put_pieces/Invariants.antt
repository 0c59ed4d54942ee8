use Rattle.std.proofs.Common.{take, Ok}
use Rattle.std.specs.List.{flat_map}
use Rattle.order_report.specs.Writing.{Puts}
use Rattle.order_report.proofs.writing.put_pieces.Given as goal

-- the pieces so far were handed over
abbrev pub invariant-loop-piece : goal.invariant-loop-piece
invariant-loop-piece g l = Puts l.fn.done (flat_map (λ piece. piece.now) (take l.piece-index l.pieces)) (g.K.Sink.written l.fn.sink) (g.K.Sink.written l.sink) (g.K.Sink.faults l.fn.sink) (g.K.Sink.faults l.sink) (Ok l.count)
