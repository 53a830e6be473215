use Rattle.report_reader.proofs.Lengths.{printed_reports_fit}
use Rattle.report_reader.proofs.ReadReports.{printed_reports_read_back}
use Rattle.report_reader.proofs.laws.report_laws.Goals as goal

pub returns-clause-reads_back : goal.returns-clause-reads_back
returns-clause-reads_back c = printed_reports_read_back

pub returns-clause-fits : goal.returns-clause-fits
returns-clause-fits c = printed_reports_fit
