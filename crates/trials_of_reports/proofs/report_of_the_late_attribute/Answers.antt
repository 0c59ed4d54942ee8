use Rattle.trials_of_reports.proofs.ReportsLemmas.{late_report}
use Rattle.trials_of_reports.proofs.report_of_the_late_attribute.Goals as goal

pub returns-clause-report : goal.returns-clause-report
returns-clause-report c = late_report
