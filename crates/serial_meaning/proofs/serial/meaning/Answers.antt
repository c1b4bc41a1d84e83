use Rattle.std.proofs.Common.{length, map, subst}
use Rattle.std.specs.Option.{option_map}
use Rattle.priml_syntax.specs.Read.{read_record}
use Rattle.core_steps.specs.Configs.{AreRecords, slots_of}
use Rattle.core_steps.specs.Moves.{read_job}
use Rattle.core_steps.proofs.CheckedLaws.{checked_laws}
use Rattle.core_steps.proofs.DeclaredPrios.{all_declared}
use Rattle.serial_meaning.proofs.Stack.{finished_below, none_at_end, serial_start, told_at_end}
use Rattle.serial_meaning.proofs.serial.meaning.Goals as goal

pub run-requires-clause-serial : goal.run-requires-clause-serial
run-requires-clause-serial c = serial_start (read_job c.args.job.now) (slots_of c.in_ok-config.config) c.in_ok-active.active.items c.in_ok-config.ensures.threads c.in_ok-active.ensures

pub unreachable-requires : goal.unreachable-requires
unreachable-requires c =
    let job = read_job c.args.job.now in
    let end = c.in_ok-run.ensures.done in
    let is = c.in_ok-run.ensures.config in
    none_at_end job end.0 (slots_of c.run.new.config) end.2 is (subst (λ o. AreRecords job is.threads (option_map (map read_record) o)) c.in-None.is (c.in_ok-records.ensures.told job is))

pub returns-clause-ok : goal.returns-clause-ok
returns-clause-ok c =
    let job = read_job c.args.job.now in
    let end = c.in_ok-run.ensures.done in
    let is = c.in_ok-run.ensures.config in
    told_at_end job end.0 c.args.limit (slots_of c.run.new.config) end.2 is (map read_record c.in-Some.records) end.1 (subst (λ o. AreRecords job is.threads (option_map (map read_record) o)) c.in-Some.is (c.in_ok-records.ensures.told job is))

pub returns-clause-declared : goal.returns-clause-declared
returns-clause-declared c =
    let job = read_job c.args.job.now in
    all_declared (length job.program.names) c.in-Some.records ((checked_laws job c.job_is_checked.ensures).prios.meant (map read_record c.in-Some.records) c.args.limit (returns-clause-ok c))

pub returns-clause-graph : goal.returns-clause-graph
returns-clause-graph c =
    let job = read_job c.args.job.now in
    (checked_laws job c.job_is_checked.ensures).graphs.meant (map read_record c.in-Some.records) c.args.limit (returns-clause-ok c)

pub returns-clause-finished : goal.returns-clause-finished
returns-clause-finished c =
    let job = read_job c.args.job.now in
    finished_below job c.job_is_checked.ensures c.args.limit (map read_record c.in-Some.records) (returns-clause-ok c)
