use Rattle.std.proofs.Common.{take, Ok}
use Rattle.order_report.specs.Lines.{path_of}
use Rattle.order_report.specs.Names.{texts_in}
use Rattle.order_report.specs.Writing.{Puts}
use Rattle.order_report.proofs.writing.put_path.Given as goal

-- the names so far were handed over
abbrev pub invariant-loop-id : goal.invariant-loop-id
invariant-loop-id g l = Puts l.fn.done (path_of (texts_in l.strings) (take l.id-index l.path)) (g.K.Sink.written l.fn.sink) (g.K.Sink.written l.sink) (g.K.Sink.faults l.fn.sink) (g.K.Sink.faults l.sink) (Ok l.count)
