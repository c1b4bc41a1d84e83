-- Tasks whose steps a seat can publish.
use Rattle.std.proofs.Common.{◌≡◌, ℕ, ◌<◌, ◌≤◌, ◌^◌, List, [], length, Bool, false, Option, Some, None, refl, sym, ap, ◌∙◌, subst, arith, true≢false}
use Rattle.std.specs.Prelude.{IfSome, IsSome}
use Rattle.std.proofs.lemmas.Option.{same_Some, none-some}
use Rattle.priml_syntax.specs.Events.{AllJoins}
use Rattle.priml_syntax.specs.Values.{Outcome'}
use Rattle.core_steps.specs.Steps.{Job}
use Rattle.trace_book.specs.Segments.{SegmentFields}
use Rattle.task_state.specs.Segments.{IsHandedOut, IsSegmentFrom, IsSegmentOf}
use Rattle.task_state.specs.declared.task.Halt.{Halt}
use Rattle.task_state.specs.declared.task.Halt.TheVariants.{Ended, Spawned, Wants, Spent}
use Rattle.task_state.specs.Tasks.{TaskFields, TaskKey, OfJob, IsStart, awaited_of, awaits_in, has_ended, key_of, read_task, unfed}
use Rattle.task_state.specs.Turns.{Halts, Turn, WasFed}
use Rattle.task_state.proofs.States.{determined, not_over, opens, state_children, state_prio}
use Rattle.join_board.specs.Calls.{HasSeen}
use Rattle.join_board.specs.Jobs.{the_job}
use Rattle.join_board.specs.Tasks.{CanRun, HasChild, IsChild, IsIdle, LastSteps}
use Rattle.join_board.specs.Threads.{Spawns}
use Rattle.join_board.specs.Views.{HasSeenEnd, HasSeenSpawn}
use Rattle.join_board.specs.declared.view.View.{View}
use Rattle.join_board.proofs.Laws.{all_joins}

unfed_of : (o : Option Outcome') (b : Option (List ℕ)) (p : List ℕ) → unfed o b ≡ Some p → (o ≡ None) × (b ≡ Some p)
unfed_of None b p e = (refl, e)
unfed_of (Some o) b p e = absurd (none-some p e)

pub some_both : {A : Type 0} (o : Option A) (P Q R : A → Type 0) → ((x : A) → P x → Q x → R x) → IfSome o P → IfSome o Q → IfSome o R
some_both None P Q R f p q = tt
some_both (Some x) P Q R f p q = f x p q

-- the steps of a run can be committed
pub last_steps : (job : Job) (v : View) (t u w : TaskFields) (q by : ℕ) (s : SegmentFields) → the_job v.about ≡ job → by < v.about.opened → q ≤ v.about.quantum → CanRun job v t → Turn job q t u
    → IsSegmentFrom u by s → IsSegmentOf job s → IsHandedOut u w → LastSteps v w s
last_steps job v t u w q by s is worker most can turn from of out = (
  (
    subst (λ (j : Job). IsSegmentOf j s) (sym is) of,
    (let e = ap length from.events in let few = turn.few in omega (arith, e, few, most)),
    subst (λ (n : ℕ). n < v.about.opened) (sym from.worker) worker,
    subst (AllJoins (HasSeenEnd v)) (sym from.events) (all_joins (WasFed t) (HasSeenEnd v) can.fed u.pending turn.joins),
  ),
  from.path ∙ ap (λ (k : TaskKey). k.path) (sym out.key),
  from.from ∙ ap (λ (k : TaskKey). k.steps) (sym out.key),
)

pub has_child : (job : Job) (q : ℕ) (u w : TaskFields) (h : Halt) → OfJob job u → Halts job q u h → key_of w ≡ key_of u → HasChild job w h
has_child job q u w Ended of halts key = tt
has_child job q u w Wants of halts key = tt
has_child job q u w Spent of halts key = tt
has_child job q u w (Spawned c) of halts key = let last = halts.2 in let start = last.start in let child = (read_task c).local in let d = determined job (read_task c) start.task in
    let count = state_children job.program u.local of.state (opens job u of (not_over u halts.1).0) in (
      start,
      subst (λ (k : TaskKey). Spawns job k.path k.steps child.path) (sym key) (of.state, last.number, determined job u of, (let k = last.children in omega (arith, count, k)), last.path),
      (d.0, start.task.state, d.2, state_prio job.program child start.task.state (opens job (read_task c) start.task (not_over (read_task c) start.live).0)),
    )

pub idle_after : (job : Job) (u w : TaskFields) → OfJob job w → u.fed ≡ None → IsHandedOut u w → IsIdle job w
idle_after job u w of unfed out = (of, out.pending, out.fed ∙ unfed)

-- a seat that has seen the parent's steps has seen the child's Spawn
pub seen_child : (job : Job) (v : View) (n : ℕ) (b : Bool) (t c : TaskFields) → the_job v.about ≡ job → IsChild job t c → n ≡ t.local.steps → HasSeen v t.local.path n b → HasSeenSpawn v c.local.path
seen_child job v n b t c is child steps h = (h.0, h.1, h.2, subst (λ (j : Job). Spawns j h.1.path h.1.length c.local.path) (sym is) (subst (λ (z : List ℕ × ℕ). Spawns job z.0 z.1 c.local.path) (λ i. (sym h.3 i, sym (h.4 ∙ steps) i)) child.1))

pub idle_start : (job : Job) (t : TaskFields) → IsStart job t → IsIdle job t
idle_start job t s = (s.task, s.pending, s.fed)

-- a task that waits is idle
pub idle_waits : (job : Job) (p : List ℕ) (t : TaskFields) → OfJob job t → awaited_of t ≡ Some p → t.pending ≡ [] → IsIdle job t
idle_waits job p t of waits none = (of, none, (unfed_of t.fed (awaits_in t) p waits).0)

not_fed : {A : Type 0} (o : Option Outcome') → o ≡ None → IsSome o → A
not_fed None e h = absurd (true≢false (sym h))
not_fed (Some o) e h = absurd (none-some o (sym e))

pub idle_runs : (job : Job) (v : View) (t : TaskFields) → IsIdle job t → has_ended t ≡ false → t.local.steps ≤ 2 ^ 59 → CanRun job v t
idle_runs job v t idle live room = record { task = idle.0; pending = idle.1; live = live; room = room; fed = λ b w. not_fed t.fed idle.2 w.0 }

-- a task to which the outcome of the thread that it awaits was fed can run, where that end was seen
pub fed_runs : (job : Job) (v : View) (t u : TaskFields) (o : Outcome') (p : List ℕ) → IsIdle job t → has_ended t ≡ false → t.local.steps ≤ 2 ^ 59 → awaited_of t ≡ Some p → u ≡ record t { fed = Some o } → OfJob job u → HasSeenEnd v p → CanRun job v u
fed_runs job v t u o p idle live room waits is of seen = let a = (unfed_of t.fed (awaits_in t) p waits).1 in record {
  task = of;
  pending = ap (λ (x : TaskFields). x.pending) is ∙ idle.1;
  live = ap has_ended is ∙ live;
  room = subst (λ (x : TaskFields). x.local.steps ≤ 2 ^ 59) (sym is) room;
  fed = λ b w. subst (HasSeenEnd v) (same_Some p b (sym (ap awaits_in is ∙ a) ∙ w.1)) seen;
}
