use Rattle.std.proofs.Common.{ℕ, take, flat_map}
use Rattle.std.specs.List.{enumerate_from}
use Rattle.flat_grammar.specs.declared.plan.VisitClass.{VisitClass}
use Rattle.order_report.specs.Report.{visit_line}
use Rattle.order_report.specs.Writing.{Extends}
use Rattle.order_report.proofs.report.add_visits.Given as goal

-- the lines so far were handed over
abbrev pub invariant-loop-place : goal.invariant-loop-place
invariant-loop-place g l = Extends (flat_map (λ (p : ℕ × VisitClass). visit_line l.strings l.symbol p.0 p.1) (take l.place (enumerate_from 1 l.row))) (g.K.Sink.written l.fn.sink) (g.K.Sink.faults l.fn.sink) l.fn.so_far (g.K.Sink.written l.sink) (g.K.Sink.faults l.sink) l.written
