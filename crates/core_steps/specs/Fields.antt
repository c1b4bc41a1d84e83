-- The fields of a local state as plain data, and the state that they stand for in a job.
use Rattle.std.specs.Prelude.{ℕ, List, [], ◌∷◌, ◌++◌, Option, Some, None, map, slice_get}
use Rattle.std.specs.Option.{option_and_then, option_map}
use Rattle.priml_syntax.specs.declared.value.FaultKind.{FaultKind}
use Rattle.priml_syntax.specs.Tree.{Code, Body, Routine, Tree, inside}
use Rattle.priml_syntax.specs.Values.{Value', Outcome'}
use Rattle.priml_syntax.specs.Read.{read_value, read_outcome}
use Rattle.core_steps.specs.declared.place.Turn.{Turn}
use Rattle.core_steps.specs.declared.frame.Root.{Root}
use Rattle.core_steps.specs.declared.frame.Root.TheVariants as root
use Rattle.core_steps.specs.declared.frame.Frame.{Frame as TheFrame}
use Rattle.core_steps.specs.declared.local.Mode.{Mode as TheMode}
use Rattle.core_steps.specs.declared.local.Mode.TheVariants as mode
use Rattle.core_steps.specs.declared.local.Local.{Local as TheLocal}
use Rattle.core_steps.specs.Places.{body_from, walk}
use Rattle.core_steps.specs.Steps.{Frame, Phase, Fresh, Run, Failing, Ended, State}

-- a block of the program by the turns that lead to it, how many of its actions are done, and its values in scope and priorities
pub record FrameFields : Type 0 where
  pub root : Root
  pub turns : List Turn
  pub done : ℕ
  pub scope : List Value'
  pub prios : List ℕ

-- whether the thread has not started, runs, is failing, or has ended
pub data Mode' : Type 0 where
  fresh running : Mode'
  failing : FaultKind → Mode'
  ended : Outcome' → Mode'

-- the frames below the top one stand outermost first
pub record LocalFields : Type 0 where
  pub path : List ℕ
  pub prio : ℕ
  pub reads : ℕ
  pub children : ℕ
  pub steps : ℕ
  pub mode : Mode'
  pub top : FrameFields
  pub below : List FrameFields

abbrev pub read_frame : TheFrame → FrameFields
read_frame f = record { root = f.root; turns = f.turns.items; done = f.done; scope = map read_value f.scope.items; prios = f.prios.items }

abbrev pub read_mode : TheMode → Mode'
read_mode mode.Fresh = fresh
read_mode mode.Running = running
read_mode (mode.Failing k) = failing k
read_mode (mode.Ended o) = ended (read_outcome o)

abbrev pub read_local : TheLocal → LocalFields
read_local l = record {
  path = l.path;
  prio = l.prio;
  reads = l.reads;
  children = l.children;
  steps = l.steps;
  mode = read_mode l.mode;
  top = read_frame l.top;
  below = map read_frame l.below.items;
}

-- the routine that a frame runs in
abbrev pub routine_at : Tree → Root → Option Routine
routine_at p (root.Main k) = slice_get p.mains k
routine_at p (root.Procedure f) = slice_get p.procs f

-- the block that a frame is in
abbrev pub block_at : Tree → FrameFields → Option Code
block_at p f = option_and_then (λ (r : Routine). walk f.turns r.body) (routine_at p f.root)

-- what is left to run in it
abbrev pub body_at : Tree → FrameFields → Option Body
body_at p f = option_and_then (λ c. body_from f.done (inside c)) (block_at p f)

abbrev pub frame_of : Tree → FrameFields → Option Frame
frame_of p f = option_map (λ b. record { code = b; scope = f.scope; prios = f.prios }) (body_at p f)

-- the innermost first
abbrev pub frames_of : Tree → List FrameFields → Option (List Frame)
frames_of p [] = Some []
frames_of p (f ∷ fs) = option_and_then (λ g. option_map (λ gs. gs ++ g ∷ []) (frames_of p fs)) (frame_of p f)

-- a thread that has not started has its first frame alone
abbrev pub fresh_phase : Option Frame → List FrameFields → Option Phase
fresh_phase t [] = option_map Fresh t
fresh_phase t (f ∷ fs) = None

abbrev pub phase_of : Tree → LocalFields → Mode' → Option Phase
phase_of p l fresh = fresh_phase (frame_of p l.top) l.below
phase_of p l running = option_and_then (λ t. option_map (Run t) (frames_of p l.below)) (frame_of p l.top)
phase_of p l (failing k) = Some (Failing k)
phase_of p l (ended o) = Some (Ended o)

-- the state that the fields stand for; none where turns lead nowhere
abbrev pub state_of : Tree → LocalFields → Option State
state_of p l = option_map (λ f. record { path = l.path; prio = l.prio; reads = l.reads; children = l.children; phase = f }) (phase_of p l l.mode)
