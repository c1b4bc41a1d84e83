use Rattle.std.proofs.Common.{length, map}
use Rattle.priml_syntax.specs.Read.{read_record}
use Rattle.core_steps.specs.Moves.{read_job}
use Rattle.core_steps.proofs.CheckedLaws.{checked_laws}
use Rattle.core_steps.proofs.DeclaredPrios.{all_declared}
use Rattle.serial_meaning.proofs.Stack.{finished_below}
use Rattle.priml.proofs.workers.run_on_workers.Goals as goal

pub returns-in_ok-records-in-Ok-clause-declared : goal.returns-in_ok-records-in-Ok-clause-declared
returns-in_ok-records-in-Ok-clause-declared g c =
    let job = read_job c.args.job.now in
    all_declared (length job.program.names) c.in_ok-records-in-Ok.records ((checked_laws job c.job_is_checked.ensures).prios.meant (map read_record c.in_ok-records-in-Ok.records) c.args.most c.in_ok-records-in-Ok.ensures.records)

pub returns-in_ok-records-in-Ok-clause-graph : goal.returns-in_ok-records-in-Ok-clause-graph
returns-in_ok-records-in-Ok-clause-graph g c =
    let job = read_job c.args.job.now in
    (checked_laws job c.job_is_checked.ensures).graphs.meant (map read_record c.in_ok-records-in-Ok.records) c.args.most c.in_ok-records-in-Ok.ensures.records

pub returns-in_ok-records-in-Ok-clause-finished : goal.returns-in_ok-records-in-Ok-clause-finished
returns-in_ok-records-in-Ok-clause-finished g c =
    let job = read_job c.args.job.now in
    finished_below job c.job_is_checked.ensures c.args.most (map read_record c.in_ok-records-in-Ok.records) c.in_ok-records-in-Ok.ensures.records c.requires.3
