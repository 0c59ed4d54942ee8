use Rattle.std.proofs.Common.{ℕ, take, flat_map}
use Rattle.std.specs.List.{enumerate_from}
use Rattle.flat_grammar.specs.declared.flat.FlatSymbol.{FlatSymbol}
use Rattle.order_report.specs.Report.{row_of, visit_lines}
use Rattle.order_report.specs.Writing.{Extends}
use Rattle.order_report.proofs.report.add_symbols.Given as goal

-- the lines so far were handed over
abbrev pub invariant-loop-k : goal.invariant-loop-k
invariant-loop-k g l = Extends (flat_map (λ (p : ℕ × FlatSymbol). visit_lines l.strings p.1 (row_of l.visits p.0)) (take l.k (enumerate_from 0 l.symbols))) (g.K.Sink.written l.fn.sink) (g.K.Sink.faults l.fn.sink) l.fn.so_far (g.K.Sink.written l.sink) (g.K.Sink.faults l.sink) l.written
