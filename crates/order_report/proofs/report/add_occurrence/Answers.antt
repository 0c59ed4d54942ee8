use Rattle.std.proofs.Common.{◌+◌, ℕ, ap, sym, take, ◌∙◌}
use Rattle.flat_grammar.specs.Rules.{symbols_of}
use Rattle.order_report.specs.Report.{occurrences}
use Rattle.order_report.proofs.PutsLemmas.{extends_same, extends_then}
use Rattle.order_report.proofs.ReportLemmas.{occurrence_is}
use Rattle.order_report.proofs.report.add_occurrence.Goals as goal

pub returns : goal.returns
returns g c =
    extends_same _ _ _ _ _ _ _ _
    (occurrence_is c.args.strings.now c.args.symbols.now c.args.rule.now c.args.occ c.in-Some.symbol c.symbol_name.result.now c.count_up_to-all.result c.count_up_to-index.result
    (sym c.symbol_at.ensures ∙ c.in-Some.is) c.symbol_name.ensures
    (c.count_up_to-all.ensures ∙ ap (λ (n : ℕ). occurrences c.in-Some.symbol (take (n + 1) (symbols_of c.args.rule.now))) c.len.ensures) c.count_up_to-index.ensures)
    (extends_then _ _ c.add-named.ensures c.add_index.ensures)
