-- What the rule asks of the threads of a job.
use Rattle.std.specs.Prelude.{◌≡◌, ℕ, ◌<◌, List, [], ◌∷◌, Bool, true, false, Option}
use Rattle.std.specs.Option.{option_and_then}
use Rattle.priml_syntax.specs.declared.event.Event.{Event}
use Rattle.priml_syntax.specs.declared.event.Event.TheVariants.{Spawn, End}
use Rattle.priml_syntax.specs.Values.{Outcome'}
use Rattle.priml_syntax.specs.Paths.{child_path}
use Rattle.core_steps.specs.Steps.{Job, State, Ran, outcome_in}
use Rattle.core_steps.specs.Config.{Thread, thread_by_path}
use Rattle.core_steps.specs.Determined.{Determined}

-- how the thread has ended in the configuration, where it has
abbrev pub outcome_at : List Thread → List ℕ → Option Outcome'
outcome_at c p = option_and_then (λ (t : Thread). outcome_in t.state.phase) (thread_by_path c p)

-- the thread of the job has this priority
abbrev pub PrioOf : Job → List ℕ → ℕ → Type 0
PrioOf job p a = (es : List Event) × (s : State) × Ran job p es s × (s.prio ≡ a)

-- one of the first n steps of the thread q spawns the thread p
abbrev pub Spawns : Job → List ℕ → ℕ → List ℕ → Type 0
Spawns job q n p = (s : State) × (k : ℕ) × Determined job q n s × (k < s.children) × (p ≡ child_path q k)

abbrev pub is_end : Event → Bool
is_end End = true
is_end e = false

abbrev pub is_spawn : Event → Bool
is_spawn Spawn = true
is_spawn e = false

-- the last event is End
abbrev pub ended : List Event → Bool
ended [] = false
ended (e ∷ []) = is_end e
ended (e ∷ f ∷ es) = ended (f ∷ es)

-- the last event is Spawn
abbrev pub spawned_last : List Event → Bool
spawned_last [] = false
spawned_last (e ∷ []) = is_spawn e
spawned_last (e ∷ f ∷ es) = spawned_last (f ∷ es)
