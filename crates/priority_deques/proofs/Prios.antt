-- The tasks of a checked job have priorities that its program declares.
use Rattle.std.proofs.Common.{◌≡◌, ◌<◌, length, Bool, true, false, Option, Some, None, sym, ap, subst}
use Rattle.std.specs.Option.{option_map}
use Rattle.std.proofs.lemmas.Option.{same_Some, none-some}
use Rattle.core_steps.specs.Fields.{LocalFields, phase_of}
use Rattle.core_steps.specs.Laws.{IsChecked}
use Rattle.core_steps.specs.Steps.{Job, Phase, State}
use Rattle.core_steps.proofs.Kept.{prio_declared}
use Rattle.core_steps.proofs.Moves.{in_phase}
use Rattle.core_steps.proofs.Traces.{traced}
use Rattle.task_state.specs.Tasks.{TaskFields, OfJob, Stands}

mapped_prio : (l : LocalFields) (s : State) (o : Option Phase) → option_map (in_phase l) o ≡ Some s → s.prio ≡ l.prio
mapped_prio l s None e = absurd (none-some s e)
mapped_prio l s (Some f) e = ap (λ (x : State). x.prio) (sym (same_Some (in_phase l f) s e))

stands_prio : (job : Job) (l : LocalFields) (over : Bool) (s : State) → Stands job l over s → s.prio ≡ l.prio
stands_prio job l false s h = mapped_prio l s (phase_of job.program l l.mode) h
stands_prio job l true s h = h.1

pub prio_in : (job : Job) → IsChecked job → (t : TaskFields) → OfJob job t → t.local.prio < length job.program.names
prio_in job checked t h = subst (λ p. p < length job.program.names) (stands_prio job t.local t.over h.state h.stands) (prio_declared checked (traced h.trace).2)
