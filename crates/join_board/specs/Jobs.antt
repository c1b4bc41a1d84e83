-- The job that a board is of.
use Rattle.std.specs.Prelude.{[], Option, Some, None}
use Rattle.std.specs.declared.snapshot.Snapshot.{Snapshot}
use Rattle.type_rules.specs.Jobs.{WithInputs}
use Rattle.core_steps.specs.Moves.{read_job}
use Rattle.core_steps.specs.Steps.{Job}
use Rattle.join_board.specs.declared.view.About.{About}

-- an empty job, for a view that stands for no seat
abbrev pub job_in : Option (Snapshot WithInputs) → Job
job_in None = record { program = record { names = []; declared = []; procs = []; mains = [] }; inputs = [] }
job_in (Some s) = read_job s.value

abbrev pub the_job : About → Job
the_job a = job_in a.job
