use Rattle.response_report.proofs.report.rows.Goals as goal

pub all_rows-requires : goal.all_rows-requires
all_rows-requires c = record {
  acyclic = c.requires.acyclic;
  well_formed = c.requires.well_formed;
  prompt = c.requires.prompt;
  some = c.requires.some;
  few = c.requires.few;
  priorities = c.requires.priorities;
}
