-- The reports, computed.
use Rattle.std.proofs.Common.{◌≡◌, refl}
use Rattle.std.specs.Fmt.{digits}
use Rattle.order_report.specs.Report.{report}
use Rattle.trials_of_grammar.specs.LateInherited.{symbols as late_symbols, rules as late_rules, visits, sequences}
use Rattle.trials_of_grammar.specs.ListOfItems.{symbols as list_symbols, rules as list_rules}
use Rattle.trials_of_reports.specs.Reports.{report_of_late, report_of_list, sequences_of_list, texts_of_late, texts_of_list, visits_of_list}

pub late_report : report texts_of_late late_symbols late_rules visits sequences ≡ report_of_late
unfolding digits
late_report = refl

pub list_report : report texts_of_list list_symbols list_rules visits_of_list sequences_of_list ≡ report_of_list
unfolding digits
list_report = refl
