-- Values, outcomes and records as plain trees. Events and faults are plain as they are declared.
use Rattle.std.specs.Prelude.{ℕ, ℤ, Bool, List}
use Rattle.priml_syntax.specs.declared.value.FaultKind.{FaultKind}
use Rattle.priml_syntax.specs.declared.event.Event.{Event}

-- a value that a thread computes
pub data Value' : Type 0 where
  unit_value : Value'
  bool_value : Bool → Value'
  int_value : ℤ → Value'
  pair_value : Value' → Value' → Value'
  left_value right_value : Value' → Value'
  -- a thread by its path, and its priority
  thread_value : List ℕ → ℕ → Value'

-- how a thread ended: with a value, or with a fault
pub data Outcome' : Type 0 where
  returned : Value' → Outcome'
  faulted : FaultKind → Outcome'

-- a thread that has ended: its path, its priority, its events in order, and how it ended
pub record Entry : Type 0 where
  pub path : List ℕ
  pub prio : ℕ
  pub events : List Event
  pub outcome : Outcome'
