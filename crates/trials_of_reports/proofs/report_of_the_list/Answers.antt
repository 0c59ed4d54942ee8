use Rattle.trials_of_reports.proofs.ReportsLemmas.{list_report}
use Rattle.trials_of_reports.proofs.report_of_the_list.Goals as goal

pub returns-clause-report : goal.returns-clause-report
returns-clause-report c = list_report
