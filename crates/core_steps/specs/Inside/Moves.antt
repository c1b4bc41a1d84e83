-- What a step does to the fields of a frame.
use Rattle.std.specs.Prelude.{◌≡◌, ℕ, ◌+◌, List, [], ◌∷◌, ◌++◌, Option, Some}
use Rattle.priml_syntax.specs.Tree.{Body, bind, Act, Tree}
use Rattle.priml_syntax.specs.Values.{Value', Outcome'}
use Rattle.priml_syntax.specs.Paths.{child_path}
use Rattle.core_steps.specs.Fields.{FrameFields, LocalFields, fresh, body_at, state_of}
use Rattle.core_steps.specs.declared.place.Turn.{Turn}
use Rattle.core_steps.specs.declared.place.Turn.TheVariants.{Bind as At}
use Rattle.core_steps.specs.declared.frame.Root.TheVariants.{Procedure}
use Rattle.core_steps.specs.Steps.{Job, State, Moved, step}

-- the fields stand for a state that makes a step with this awaited outcome
abbrev pub CanStep : Job → LocalFields → Option Outcome' → Type 0
CanStep job l w = (s : State) × (m : Moved) × (state_of job.program l ≡ Some s) × (step job s w ≡ Some m)

-- the action is the next of the frame
abbrev pub IsNext : Tree → FrameFields → Act → Type 0
IsNext p f a = (at : ℕ) × (k : Body) × (body_at p f ≡ Some (bind at a k))

-- past the next action
abbrev pub past : FrameFields → FrameFields
past f = record f { done = f.done + 1 }

-- which has got the value
abbrev pub bound_in : FrameFields → Value' → FrameFields
bound_in f v = record f { done = f.done + 1; scope = f.scope ++ v ∷ [] }

-- a turn further in
abbrev pub within_frame : FrameFields → Turn → FrameFields
within_frame f t = record f { turns = f.turns ++ t ∷ []; done = 0 }

-- in the body of a procedure
abbrev pub called_frame : ℕ → List Value' → List ℕ → FrameFields
called_frame g vs ps = record { root = Procedure g; turns = []; done = 0; scope = vs; prios = ps }

-- the next child, at this priority
abbrev pub child_of : LocalFields → ℕ → LocalFields
child_of l q = record {
  path = child_path l.path l.children;
  prio = q;
  reads = 0;
  children = 0;
  steps = 0;
  mode = fresh;
  top = within_frame l.top (At l.top.done);
  below = [];
}
