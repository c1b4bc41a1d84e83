use Rattle.response_report.proofs.SomeRows.{rows_some}
use Rattle.response_report.proofs.laws.some_rows.Goals as goal

pub returns : goal.returns
returns c = rows_some
