-- What the checker answers.
use Rattle.std.specs.Prelude.{◌≡◌, ℕ, List, map, Result, MatchResult}
use Rattle.std.proofs.Common.{◌⊎◌}
use Rattle.priml_syntax.specs.declared.prio.Prio.{Prio}
use Rattle.priml_syntax.specs.Read.{read_sig}
use Rattle.priml_syntax.specs.Tree.{Type', Term, Code, Body, Act}
use Rattle.constraint_proof.specs.Facts.{Facts}
use Rattle.priml_syntax.specs.declared.program.Proc.{Proc}
use Rattle.type_rules.specs.declared.TypeKind.{TypeKind}
use Rattle.type_rules.specs.declared.TypeStop.{TypeStop}
use Rattle.type_rules.specs.declared.TypeStop.TheVariants.{Fault, OutOfMemory}
use Rattle.type_rules.specs.Typing.{VarTypes, Context, CodeHas, BodyHas, ActHas}
use Rattle.type_rules.specs.declared.shared.Shared.{Shared}
use Rattle.type_rules.specs.Shared.{read_shared}
use Rattle.type_rules.specs.Inside.Faults.{TermFaults, TermsFault, CodeFaults, BodyFaults, PartsFault, ActFault}

-- what the checker knows while it types a procedure
abbrev pub setting : Facts → List Proc → Context
setting known procs = record { pairs = known.pairs; procs = map read_sig procs; given = known.given }

-- the types of the variables in scope
abbrev pub scope_of : List Shared → VarTypes
scope_of = map read_shared

-- the fault is the first of the expression, of the expressions, of the block, of the body or of the action; want of memory is free
abbrev pub TermStops : VarTypes → Term → TypeStop → Type 0
TermStops G e (Fault f) = TermFaults e G f.kind f.at
TermStops G e OutOfMemory = Unit {0}

abbrev pub TermsStop : VarTypes → List Term → TypeStop → Type 0
TermsStop G es (Fault f) = TermsFault es G f.kind f.at
TermsStop G es OutOfMemory = Unit {0}

abbrev pub CodeStops : Context → VarTypes → Prio → Code → TypeStop → Type 0
CodeStops s G r c (Fault f) = CodeFaults c s G r f.kind f.at
CodeStops s G r c OutOfMemory = Unit {0}

abbrev pub BodyStops : Context → VarTypes → Prio → Body → TypeStop → Type 0
BodyStops s G r b (Fault f) = BodyFaults b s G r f.kind f.at
BodyStops s G r b OutOfMemory = Unit {0}

abbrev pub ActStops : Context → VarTypes → Prio → ℕ → Act → TypeStop → Type 0
ActStops s G r at a (Fault f) = PartsFault a s G r f.kind f.at ⊎ (ActFault s G r a f.kind × (f.at ≡ at))
ActStops s G r at a OutOfMemory = Unit {0}

-- the type of a block, of a body or of an action, or its first fault
abbrev pub CodeAnswer : Context → VarTypes → Prio → Code → Result Shared TypeStop → Type 0
CodeAnswer s G r c result = MatchResult result (λ t. CodeHas c s G r (read_shared t)) (CodeStops s G r c)

abbrev pub BodyAnswer : Context → VarTypes → Prio → Body → Result Shared TypeStop → Type 0
BodyAnswer s G r b result = MatchResult result (λ t. BodyHas b s G r (read_shared t)) (BodyStops s G r b)

abbrev pub ActAnswer : Context → VarTypes → Prio → ℕ → Act → Result Shared TypeStop → Type 0
ActAnswer s G r at a result = MatchResult result (λ t. ActHas a s G r (read_shared t)) (ActStops s G r at a)

-- where the rest of a body in the scope G is what is left of the whole body in the scope H
pub record CarriesOn (s : Context) (r : Prio) (G : VarTypes) (rest : Body) (H : VarTypes) (body : Body) : Type 0 where
  pub typed : (T : Type') → BodyHas rest s G r T → BodyHas body s H r T
  pub faulty : (k : TypeKind) (p : ℕ) → BodyFaults rest s G r k p → BodyFaults body s H r k p
