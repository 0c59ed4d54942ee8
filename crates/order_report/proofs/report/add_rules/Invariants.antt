use Rattle.std.proofs.Common.{ℕ, take, flat_map}
use Rattle.std.specs.List.{enumerate_from}
use Rattle.flat_grammar.specs.declared.flat.FlatRule.{FlatRule}
use Rattle.order_report.specs.Report.{row_of, rule_line}
use Rattle.order_report.specs.Writing.{Extends}
use Rattle.order_report.proofs.report.add_rules.Given as goal

-- the lines so far were handed over
abbrev pub invariant-loop-k : goal.invariant-loop-k
invariant-loop-k g l = Extends (flat_map (λ (p : ℕ × FlatRule). rule_line l.strings l.symbols p.1 (row_of l.seqs p.0)) (take l.k (enumerate_from 0 l.rules))) (g.K.Sink.written l.fn.sink) (g.K.Sink.faults l.fn.sink) l.fn.so_far (g.K.Sink.written l.sink) (g.K.Sink.faults l.sink) l.written
