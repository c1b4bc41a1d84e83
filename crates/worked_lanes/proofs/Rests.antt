-- When tasks are at rest.
use Rattle.std.proofs.Common.{◌≡◌, None, false, sym, ◌∙◌, subst}
use Rattle.type_rules.specs.Jobs.{WithInputs}
use Rattle.core_steps.specs.Moves.{read_job}
use Rattle.core_steps.specs.Steps.{Job}
use Rattle.task_state.specs.Tasks.{TaskFields, IsStart, OfJob, has_ended}
use Rattle.task_state.specs.Segments.{IsHandedOut}
use Rattle.priority_deques.specs.Tasks.{IsAtRest}

-- a task whose thread has not started
pub start_rests : (job : Job) (t : TaskFields) → IsStart job t → IsAtRest job t
start_rests job t s = record { task = s.task; live = s.live; pending = s.pending; unfed = s.fed }

-- a task whose steps were handed out
pub handed_rests : (job : Job) (t t' : TaskFields) → OfJob job t' → has_ended t ≡ false → t.fed ≡ None → IsHandedOut t t' → IsAtRest job t'
handed_rests job t t' task live unfed h = record { task = task; live = h.ended ∙ live; pending = h.pending; unfed = h.fed ∙ unfed }

-- of the same job
pub rests_as : (job now : WithInputs) → job ≡ now → (t : TaskFields) → IsAtRest (read_job now) t → IsAtRest (read_job job) t
rests_as job now e t r = subst (λ (j : WithInputs). IsAtRest (read_job j) t) (sym e) r
