-- A step of a thread over the fields of its local state.
use Rattle.std.specs.Prelude.{◌≡◌, Option, Some, IfSome}
use Rattle.std.specs.Option.{option_map}
use Rattle.priml_syntax.specs.declared.event.Event.{Event}
use Rattle.priml_syntax.specs.Values.{Outcome'}
use Rattle.priml_syntax.specs.Read.{read_program}
use Rattle.type_rules.specs.Jobs.{WithInputs}
use Rattle.core_steps.specs.Fields.{LocalFields, state_of}
use Rattle.core_steps.specs.Steps.{Job, State, Moved, step}

-- the program and the inputs of a job as plain data
abbrev pub read_job : WithInputs → Job
read_job j = record { program = read_program j.program; inputs = j.inputs }

-- that step leads to these fields, with this event and child
pub record Goes (job : Job) (l : LocalFields) (w : Option Outcome') (e : Event) (child : Option LocalFields) (l' : LocalFields) : Type 0 where
  pub old : State
  pub move : Moved
  pub opens : state_of job.program l ≡ Some old
  pub steps : step job old w ≡ Some move
  pub event : move.event ≡ e
  pub next : state_of job.program l' ≡ Some move.next
  pub born : option_map (state_of job.program) child ≡ option_map Some move.child
  pub new : IfSome child (λ (c : LocalFields). c.steps ≡ 0)
