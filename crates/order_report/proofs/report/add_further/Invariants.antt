use Rattle.std.proofs.Common.{take}
use Rattle.order_report.specs.Report.{further_text}
use Rattle.order_report.specs.Writing.{Extends}
use Rattle.order_report.proofs.report.add_further.Given as goal

-- the items so far were handed over
abbrev pub invariant-loop-item : goal.invariant-loop-item
invariant-loop-item g l = Extends (further_text l.strings l.symbols l.rule (take l.item-index l.items)) (g.K.Sink.written l.fn.sink) (g.K.Sink.faults l.fn.sink) l.fn.so_far (g.K.Sink.written l.sink) (g.K.Sink.faults l.sink) l.written
