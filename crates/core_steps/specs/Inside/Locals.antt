-- What the steps of a local state say.
use Rattle.std.specs.Prelude.{Box, [], ◌≡◌, ℕ, ℤ, Bool, List, ◌∷◌, ◌++◌, Option, Some, None, map}
use Rattle.std.specs.declared.alloc.Global.{Global}
use Rattle.core_steps.specs.declared.local.Local.{Local as TheLocal}
use Rattle.core_steps.specs.Fields.{LocalFields, read_local, FrameFields, state_of}
use Rattle.std.specs.Option.{option_map}
use Rattle.priml_syntax.specs.Tree.{Body, bind}
use Rattle.priml_syntax.specs.Values.{Value', bool_value, int_value, left_value, right_value, Outcome', returned, faulted}
use Rattle.priml_syntax.specs.Read.{read_act, read_tail, read_value}
use Rattle.core_steps.specs.declared.frame.Coming.{Coming}
use Rattle.core_steps.specs.declared.frame.Coming.TheVariants.{Action, Ending}
use Rattle.core_steps.specs.declared.kinds.Sided.{Sided}
use Rattle.core_steps.specs.declared.kinds.Sided.TheVariants as sided
use Rattle.core_steps.specs.declared.given.Given.{Given}
use Rattle.core_steps.specs.declared.given.Given.TheVariants as given
use Rattle.core_steps.specs.declared.given.GivenAll.{GivenAll}
use Rattle.core_steps.specs.declared.given.GivenAll.TheVariants as given_all
use Rattle.core_steps.specs.Expressions.{Results, AllGave, OneFault}
use Rattle.core_steps.specs.declared.local.Made.{Made as TheMade}
use Rattle.core_steps.specs.Moves.{Goes}
use Rattle.core_steps.specs.Steps.{Job, State, awaits, awaits_code}

-- the same of one in a box
abbrev pub read_boxed : Box TheLocal Global → LocalFields
read_boxed b = read_local b.value

-- what comes next in a frame: nothing, where its turns lead nowhere; an action; or the ending of its block
abbrev pub IsComing : Option Body → Option Coming → Type 0
IsComing b None = b ≡ None
IsComing b (Some (Action a)) = (at : ℕ) × (k : Body) × (b ≡ Some (bind at (read_act a.now) k))
IsComing b (Some (Ending t)) = (at : ℕ) × (b ≡ Some (read_tail t.now at))

-- the thread that a frame awaits with this left to run
abbrev pub awaited_in : Option Body → FrameFields → Option (List ℕ)
awaited_in None f = None
awaited_in (Some b) f = awaits_code (record { code = b; scope = f.scope; prios = f.prios }) b

-- the frame got the value and is the top one, above these
abbrev pub left_for : LocalFields → Value' → List FrameFields → FrameFields → LocalFields
left_for l v fs f = record l { top = record f { scope = f.scope ++ v ∷ [] }; below = fs }

-- the frame below the top one got the value and is the top one
abbrev pub IsLeft : LocalFields → Value' → LocalFields → Type 0
IsLeft l v l' = (fs : List FrameFields) × (f : FrameFields) × (l.below ≡ fs ++ f ∷ []) × (l' ≡ left_for l v fs f)

-- the same, with the child in a box
abbrev pub MakesTo : Job → TheLocal → Option Outcome' → TheMade → TheLocal → Type 0
MakesTo job l w m l' = Goes job (read_local l) w m.event (option_map read_boxed m.child) (read_local l')

-- the state awaits a thread
abbrev pub IsWaiting : Job → LocalFields → Type 0
IsWaiting job l = (s : State) → state_of job.program l ≡ Some s → (b : List ℕ) × (awaits s ≡ Some b)

-- the number that a value is
abbrev pub number_in : Value' → Option ℤ
number_in (int_value n) = Some n
number_in v = None

-- the truth value that a value is
abbrev pub bool_in : Value' → Option Bool
bool_in (bool_value b) = Some b
bool_in v = None

-- the side of a sum that a value is of, and what it holds
pub data Side : Type 0 where
  Left Right : Value' → Side

abbrev pub side_in : Value' → Option Side
side_in (left_value v) = Some (Left v)
side_in (right_value v) = Some (Right v)
side_in v = None

-- what an expression gave
abbrev pub IsGiven : Option Outcome' → Given → Type 0
IsGiven o (given.Value v) = o ≡ Some (returned (read_value v))
IsGiven o (given.Fault k) = o ≡ Some (faulted k)
IsGiven o given.Wrong = o ≡ None

-- what several expressions gave
abbrev pub AreGiven : Option Results → GivenAll → Type 0
AreGiven o (given_all.Values vs) = o ≡ Some (AllGave (map read_value vs.items))
AreGiven o (given_all.Fault k) = o ≡ Some (OneFault k)
AreGiven o given_all.Wrong = o ≡ None

-- a value of a sum, by its side
abbrev pub IsSide : Option Side → Sided → Type 0
IsSide o (sided.Left v) = o ≡ Some (Left (read_value v))
IsSide o (sided.Right v) = o ≡ Some (Right (read_value v))
IsSide o sided.Wrong = o ≡ None
