use Rattle.std.proofs.Common.{take}
use Rattle.order_report.specs.CycleLines.{steps_text}
use Rattle.order_report.specs.Writing.{Extends}
use Rattle.order_report.proofs.cycles.add_steps.Given as goal

-- the steps so far were handed over
abbrev pub invariant-loop-step : goal.invariant-loop-step
invariant-loop-step g l = Extends (steps_text l.strings l.names l.occs (take l.step-index l.steps)) (g.K.Sink.written l.fn.sink) (g.K.Sink.faults l.fn.sink) l.fn.so_far (g.K.Sink.written l.sink) (g.K.Sink.faults l.sink) l.written
