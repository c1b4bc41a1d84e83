-- Values with types, and typed states of threads.
use Rattle.std.specs.Prelude.{◌≡◌, ℕ, ◌<◌, Bool, ℤ, List, [], ◌∷◌, ◌++◌, map, length}
use Rattle.priml_syntax.specs.Tree.{Type', unit, bool, int, pair, sum, thread, Body, Routine, Constraint, pairs_of}
use Rattle.priml_syntax.specs.Values.{Value', unit_value, bool_value, int_value, pair_value, left_value, right_value, thread_value, Outcome', returned, faulted}
use Rattle.priml_syntax.specs.declared.prio.Prio.{Prio}
use Rattle.priml_syntax.specs.declared.prio.Prio.TheVariants.{Const}
use Rattle.priml_syntax.specs.Scoped.{NameCounts, PrioIn, BodyIn}
use Rattle.type_rules.specs.Typing.{BodyHas, Context}
use Rattle.priority_order.specs.Order.{AtMost}
use Rattle.core_steps.specs.Steps.{Job, Frame, Phase, Fresh, Run, Failing, Ended, State, Ran, prio_of}

-- a type with the priorities that its variables stand for
abbrev pub settled : List ℕ → Type' → Type'
settled ps (pair a b) = pair (settled ps a) (settled ps b)
settled ps (sum a b) = sum (settled ps a) (settled ps b)
settled ps (thread p t) = thread (Const (prio_of ps p)) (settled ps t)
settled ps t = t

-- the priorities meet the constraints
abbrev pub Meets : List (ℕ × ℕ) → List ℕ → List Constraint → Type 0
Meets pairs ps [] = Unit {0}
Meets pairs ps (c ∷ cs) = AtMost pairs (prio_of ps c.0) (prio_of ps c.1) × Meets pairs ps cs

-- the program declares each of the priorities
abbrev pub AreDeclared : Job → List ℕ → Type 0
AreDeclared job [] = Unit {0}
AreDeclared job (p ∷ ps) = (p < length job.program.names) × AreDeclared job ps

-- the setting of code under these constraints
abbrev pub setting_at : Job → List Constraint → Context
setting_at job given = record { pairs = pairs_of job.program; procs = map (λ (g : Routine). g.declares) job.program.procs; given = given }

-- the scope of code with this many priority variables
abbrev pub scope_at : Job → ℕ → NameCounts
scope_at job vars = record { prios = length job.program.names; vars = vars; procs = length job.program.procs }

-- these priorities stand for the variables of code that meets the constraints, and that runs at r, which is q
pub record Under (job : Job) (ps : List ℕ) (given : List Constraint) (r : Prio) (q : ℕ) : Type 0 where
  pub declared : AreDeclared job ps
  pub meets : Meets (pairs_of job.program) ps given
  pub scoped : PrioIn (scope_at job (length ps)) r
  pub own : prio_of ps r ≡ q

mutual
  pub data Has (job : Job) : Value' → Type' → Type 0 where
    has_unit : Has job unit_value unit
    has_bool : {b : Bool} → Has job (bool_value b) bool
    has_int : {z : ℤ} → Has job (int_value z) int
    has_pair : {a b : Value'} {t u : Type'} → Has job a t → Has job b u → Has job (pair_value a b) (pair t u)
    has_left : {a : Value'} {t u : Type'} → Has job a t → Has job (left_value a) (sum t u)
    has_right : {a : Value'} {t u : Type'} → Has job a u → Has job (right_value a) (sum t u)
    has_thread : {p : List ℕ} {q : ℕ} {t : Type'} → Born job p q t → Has job (thread_value p q) (thread (Const q) t)

  -- the thread begins with a block of this type at this priority
  pub data Born (job : Job) : List ℕ → ℕ → Type' → Type 0 where
    begins : {p : List ℕ} {q : ℕ} {t : Type'} {s : State} {f : Frame} →
        Ran job p [] s → s.prio ≡ q → s.phase ≡ Fresh f → CodeFits job f.code f.scope f.prios [] q t → Born job p q t

  -- code with these values in scope and these priorities runs at the priority, and gives a value of the type once it has values of the wanted types
  pub data CodeFits (job : Job) : Body → List Value' → List ℕ → List Type' → ℕ → Type' → Type 0 where
    fits : {c : Body} {scope : List Value'} {ps : List ℕ} {wanted : List Type'} {q : ℕ} {t : Type'} (given : List Constraint) (r : Prio) (u : Type') (all have : List Type') →
        Under job ps given r q → BodyHas c (setting_at job given) all r u → BodyIn c (scope_at job (length ps)) (length all) →
        AllHave job scope have → have ++ wanted ≡ map (settled ps) all → settled ps u ≡ t → CodeFits job c scope ps wanted q t

  pub data AllHave (job : Job) : List Value' → List Type' → Type 0 where
    none : AllHave job [] []
    more : {v : Value'} {t : Type'} {vs : List Value'} {ts : List Type'} → Has job v t → AllHave job vs ts → AllHave job (v ∷ vs) (t ∷ ts)

abbrev pub FrameHas : Job → Frame → List Type' → ℕ → Type' → Type 0
FrameHas job f wanted q t = CodeFits job f.code f.scope f.prios wanted q t

-- frames that wait for a value of the first type and end with one of the second
abbrev pub StackHas : Job → ℕ → List Frame → Type' → Type' → Type 0
StackHas job q [] t u = t ≡ u
StackHas job q (f ∷ fs) t u = (w : Type') × FrameHas job f (t ∷ []) q w × StackHas job q fs w u

abbrev pub OutcomeHas : Job → Outcome' → Type' → Type 0
OutcomeHas job (returned v) t = Has job v t
OutcomeHas job (faulted k) t = Unit {0}

abbrev pub PhaseHas : Job → ℕ → Phase → Type' → Type 0
PhaseHas job q (Fresh f) u = FrameHas job f [] q u
PhaseHas job q (Run f fs) u = (w : Type') × FrameHas job f [] q w × StackHas job q fs w u
PhaseHas job q (Failing k) u = Unit {0}
PhaseHas job q (Ended o) u = OutcomeHas job o u
