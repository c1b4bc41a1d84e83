use Rattle.response_report.proofs.OneRows.{rows_one}
use Rattle.response_report.proofs.laws.rows_are_one.Goals as goal

pub returns : goal.returns
returns c = rows_one
