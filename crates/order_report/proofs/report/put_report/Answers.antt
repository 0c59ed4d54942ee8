use Rattle.std.proofs.Common.{ℕ, ◌++◌, flat_map}
use Rattle.std.specs.List.{enumerate_from}
use Rattle.flat_grammar.specs.declared.flat.FlatRule.{FlatRule}
use Rattle.flat_grammar.specs.declared.flat.FlatSymbol.{FlatSymbol}
use Rattle.order_report.specs.Report.{row_of, rule_line, visit_lines}
use Rattle.order_report.proofs.PutsLemmas.{extended, extends_same, extends_then}
use Rattle.order_report.proofs.report.put_report.Goals as goal

pub returns : goal.returns
returns g c =
    extended _ _ _ _ _ _ (extends_same _ _ _ _ _ _ _ _
    (λ j. flat_map (λ (p : ℕ × FlatSymbol). visit_lines c.args.strings.now p.1 (row_of (c.as_slice.ensures j) p.0)) (enumerate_from 0 (c.as_slice-symbols.ensures j))
    ++ flat_map (λ (p : ℕ × FlatRule). rule_line c.args.strings.now (c.as_slice-symbols.ensures j) p.1 (row_of (c.as_slice-3.ensures j) p.0)) (enumerate_from 0 (c.as_slice-2.ensures j)))
    (extends_then _ _ c.add_symbols-visits.ensures c.add_rules.ensures))
