use Rattle.std.proofs.Common.{rules}
use Rattle.worked_tasks.proofs.whole.each_quantum.Goals as goal

pub run_whole-requires-clause-meant : goal.run_whole-requires-clause-meant
run_whole-requires-clause-meant g c = (100, search rules)
