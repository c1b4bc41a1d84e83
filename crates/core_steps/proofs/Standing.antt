-- What the fields of a local state tell at once.
use Rattle.std.proofs.Common.{◌≡◌, ℕ, zero, suc, ◌<◌, List, [], ◌∷◌, Option, Some, None, length, refl, sym, ap, ◌∙◌, arith}
use Rattle.std.specs.Prelude.{slice_get}
use Rattle.std.specs.Option.{option_map}
use Rattle.std.proofs.lemmas.Option.{same_Some}
use Rattle.priml_syntax.specs.declared.block.TailForm.{TailForm}
use Rattle.priml_syntax.specs.declared.block.TailForm.TheVariants.{Ret, If', Case'}
use Rattle.priml_syntax.specs.Tree.{Body, Routine, Tree}
use Rattle.priml_syntax.specs.Values.{Outcome'}
use Rattle.priml_syntax.specs.Read.{read_tail}
use Rattle.core_steps.specs.declared.frame.Root.TheVariants.{Main}
use Rattle.core_steps.specs.Fields.{FrameFields, LocalFields, ended, fresh, phase_of, state_of}
use Rattle.core_steps.specs.Locals.{IsLocal}
use Rattle.core_steps.specs.Inside.Locals.{awaited_in}
use Rattle.core_steps.specs.Steps.{Job, State, Ended, outcome_in, prio_of, root_state, root}
use Rattle.core_steps.proofs.Moves.{in_phase}

-- an ending awaits no thread
pub ending_awaits_none : (t : TailForm) (at : ℕ) (b : Option Body) (f : FrameFields) → b ≡ Some (read_tail t at) → None ≡ awaited_in b f
ending_awaits_none (Ret e) at b f is = sym (ap (λ o. awaited_in o f) is)
ending_awaits_none (If' e p x q y) at b f is = sym (ap (λ o. awaited_in o f) is)
ending_awaits_none (Case' e p x q y) at b f is = sym (ap (λ o. awaited_in o f) is)

-- a state that has ended
pub ended_state : (p : Tree) (l : LocalFields) (o : Outcome') (s : State) → l.mode ≡ ended o → state_of p l ≡ Some s → outcome_in s.phase ≡ Some o
ended_state p l o s mode e =
    let same : in_phase l (Ended o) ≡ s = same_Some (in_phase l (Ended o)) s (sym (ap (λ m. option_map (in_phase l) (phase_of p l m)) mode) ∙ e) in
    ap (λ (x : State). outcome_in x.phase) (sym same)

-- the fields of a root that has not started
abbrev pub root_fields : ℕ → ℕ → LocalFields
root_fields k q = record { path = k ∷ []; prio = q; reads = 0; children = 0; steps = 0; mode = fresh; top = record { root = Main k; turns = []; done = 0; scope = []; prios = [] }; below = [] }

-- they stand for its state
root_opens : (job : Job) (k q : ℕ) (m : Routine) → slice_get job.program.mains k ≡ Some m → q ≡ prio_of [] m.declares.own → state_of job.program (root_fields k q) ≡ Some (root_state m k)
root_opens job k q m e f = rw (e, f) refl

-- what stands at a place of a list
pub at_place : {X : Type 0} (xs : List X) (k : ℕ) → k < length xs → (x : X) × (slice_get xs k ≡ Some x)
at_place [] k l = absurd (omega (arith, l))
at_place (x ∷ xs) zero l = (x, refl)
at_place (x ∷ xs) (suc k) l = at_place xs k (omega (arith, l))

pub root_is : (job : Job) (k : ℕ) (l : LocalFields) → k < length job.program.mains → ((m : Routine) → slice_get job.program.mains k ≡ Some m → l.prio ≡ prio_of [] m.declares.own) → l ≡ root_fields k l.prio → option_map (λ m. root_state m k) (slice_get job.program.mains k) ≡ state_of job.program l
root_is job k l b f is =
    let x = at_place job.program.mains k b in
    ap (option_map (λ m. root_state m k)) x.1 ∙ (sym (root_opens job k l.prio x.0 x.1 (f x.0 x.1)) ∙ ap (state_of job.program) (sym is))

pub root_local : (job : Job) (k : ℕ) (l : LocalFields) → k < length job.program.mains → l.path ≡ k ∷ [] → l.steps ≡ 0 → option_map (λ m. root_state m k) (slice_get job.program.mains k) ≡ state_of job.program l → IsLocal job l
root_local job k l b path steps opens =
    let x = at_place job.program.mains k b in
    record { state = root_state x.0 k; opens = sym opens ∙ ap (option_map (λ m. root_state m k)) x.1; determined = ([], sym steps, root x.1 path refl refl) }
