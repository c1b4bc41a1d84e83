-- The slots of a configuration, as a step finds and leaves them.
use Rattle.std.specs.Prelude.{◌≡◌, ℕ, if◌then◌else◌, ◌+◌, ◌<◌, List, [], ◌∷◌, ◌++◌, Option, Some, None, Result, Ok, Err, length}
use Rattle.std.specs.Option.{option_map}
use Rattle.std.specs.List.{HoldsAt}
use Rattle.priml_syntax.specs.Values.{Outcome'}
use Rattle.priml_syntax.specs.Paths.{same_path, path_lt}
use Rattle.core_steps.specs.declared.slot.Slot.{Slot}
use Rattle.core_steps.specs.declared.config.CoreStop.{CoreStop}
use Rattle.core_steps.specs.declared.config.CoreStop.TheVariants.{NoThread, Ended, Waits, OutOfMemory}
use Rattle.priml_syntax.specs.declared.value.Outcome.{Outcome}
use Rattle.priml_syntax.specs.Read.{read_outcome}
use Rattle.core_steps.specs.Fields.{LocalFields, state_of}
use Rattle.core_steps.specs.Inside.Locals.{read_boxed}
use Rattle.core_steps.specs.declared.local.Made.{Made as TheMade}
use Rattle.core_steps.specs.Locals.{ended_with}
use Rattle.core_steps.specs.Moves.{Goes}
use Rattle.core_steps.specs.Steps.{Job, State, awaits, outcome_in}
use Rattle.core_steps.specs.Config.{Thread, thread_by_path, handed}
use Rattle.core_steps.specs.Configs.{IsStopAt, SlotFields, read_slot, slots_of, threads_from}

-- the slot of a path
abbrev pub slot_at : List SlotFields → List ℕ → Option SlotFields
slot_at [] p = None
slot_at (s ∷ ss) p = if same_path s.local.path p then Some s else slot_at ss p

-- it stands at this place
abbrev pub StandsAt : List Slot → List ℕ → ℕ → Type 0
StandsAt c p i = (i < length c) × HoldsAt (λ (s : Slot). Some (read_slot s) ≡ slot_at (slots_of c) p) c i

-- the outcome of the slot, where it has ended
abbrev pub outcome_of : Option SlotFields → Option Outcome'
outcome_of None = None
outcome_of (Some s) = ended_with s.local.mode

-- the thread of the path awaits that one, or none, and is handed this
abbrev pub Needs : List Thread → List ℕ → Option (List ℕ) → Option Outcome' → Type 0
Needs ts p b w = (t : Thread) × (thread_by_path ts p ≡ Some t) × (outcome_in t.state.phase ≡ None) × (awaits t.state ≡ b) × (handed ts b ≡ Some w)

abbrev pub IsNeedIn : List Thread → List ℕ → Result (Option (List ℕ × Outcome)) CoreStop → Type 0
IsNeedIn ts p (Ok None) = Needs ts p None None
IsNeedIn ts p (Ok (Some x)) = Needs ts p (Some x.0) (Some (read_outcome x.1))
IsNeedIn ts p (Err stop) = IsStopAt ts p stop

-- what the next step of the thread of the path needs, or why there is none
abbrev pub IsNeed : Job → List SlotFields → List ℕ → Result (Option (List ℕ × Outcome)) CoreStop → Type 0
IsNeed job ss p r = (ts : List Thread) → threads_from job.program ss ≡ Some ts → IsNeedIn ts p r

-- it is this
abbrev pub SlotNeeds : Job → List SlotFields → List ℕ → Option (List ℕ) → Option Outcome' → Type 0
SlotNeeds job ss p b w = (ts : List Thread) → threads_from job.program ss ≡ Some ts → Needs ts p b w

-- the thread of the path, which has ended, and its outcome
abbrev pub IsEnded : List SlotFields → List ℕ → Result (List ℕ × Outcome) CoreStop → Type 0
IsEnded ss b (Ok x) = (x.0 ≡ b) × (outcome_of (slot_at ss b) ≡ Some (read_outcome x.1))
IsEnded ss b (Err NoThread) = ⊥
IsEnded ss b (Err Ended) = ⊥
IsEnded ss b (Err (Waits c)) = (c ≡ b) × (outcome_of (slot_at ss b) ≡ None)
IsEnded ss b (Err OutOfMemory) = Unit {0}

-- with one slot more, at its place in the order of paths
abbrev pub slot_added : SlotFields → List SlotFields → List SlotFields
slot_added s [] = s ∷ []
slot_added s (x ∷ ss) = if path_lt s.local.path x.local.path then s ∷ x ∷ ss else x ∷ slot_added s ss

-- a step joins the thread of this path, or none
abbrev pub JoinsAt : Job → LocalFields → Option (List ℕ) → Type 0
JoinsAt job l b = (s : State) → state_of job.program l ≡ Some s → awaits s ≡ b

-- with this slot in place of that of its path
abbrev pub slot_put : SlotFields → List SlotFields → List SlotFields
slot_put s [] = []
slot_put s (x ∷ ss) = if same_path x.local.path s.local.path then s ∷ ss else x ∷ slot_put s ss

-- the slot of the path made a step, with this event and child
pub record StepsAt (job : Job) (ss : List SlotFields) (p : List ℕ) (w : Option Outcome') (m : TheMade) (new : List SlotFields) : Type 0 where
  pub old : SlotFields
  pub next : SlotFields
  pub found : slot_at ss p ≡ Some old
  pub goes : Goes job old.local w m.event (option_map read_boxed m.child) next.local
  pub events : next.events ≡ old.events ++ m.event ∷ []
  pub steps : next.local.steps ≡ old.local.steps + 1
  pub put : new ≡ slot_put next ss

-- and with the child, where there is one
abbrev pub with_slot : Option LocalFields → List SlotFields → List SlotFields
with_slot None ss = ss
with_slot (Some l) ss = slot_added (record { local = l; events = [] }) ss
