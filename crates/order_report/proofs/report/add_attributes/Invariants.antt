use Rattle.std.proofs.Common.{take}
use Rattle.order_report.specs.Report.{attributes_text}
use Rattle.order_report.specs.Writing.{Extends}
use Rattle.order_report.proofs.report.add_attributes.Given as goal

-- the names so far were handed over
abbrev pub invariant-loop-attr : goal.invariant-loop-attr
invariant-loop-attr g l = Extends (attributes_text l.strings l.symbol l.word (take l.attr-index l.attrs)) (g.K.Sink.written l.fn.sink) (g.K.Sink.faults l.fn.sink) l.fn.so_far (g.K.Sink.written l.sink) (g.K.Sink.faults l.sink) l.written
