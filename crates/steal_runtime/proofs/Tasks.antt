-- Tasks in the hands of a worker.
use Rattle.std.proofs.Common.{◌≡◌, ℕ, ◌+◌, ◌<◌, ◌≤◌, ◌^◌, List, [], length, Bool, true, false, true≢false, ◌||◌, Option, Some, None, sym, refl, ap, ◌∙◌, subst, arith}
use Rattle.std.specs.Prelude.{is_some, IsSome}
use Rattle.std.specs.List.{All}
use Rattle.std.proofs.lemmas.List.Elements.{All-from_recursion}
use Rattle.std.proofs.lemmas.Option.{same_Some, none-some}
use Rattle.priml_syntax.specs.Events.{AllJoins}
use Rattle.priml_syntax.specs.Values.{Outcome'}
use Rattle.core_steps.specs.Locals.{ended_with}
use Rattle.core_steps.specs.Steps.{Job, Phase, Ended, awaits_phase, outcome_in}
use Rattle.trace_book.specs.Segments.{SegmentFields}
use Rattle.task_state.specs.Segments.{IsHandedOut, IsSegmentFrom, IsSegmentOf}
use Rattle.task_state.specs.declared.task.Task.{Task}
use Rattle.task_state.specs.Tasks.{TaskFields, read_task, OfJob, Stands, IsStart, awaited_of, awaits_in, has_ended, unfed}
use Rattle.task_state.specs.Turns.{IsLastChild, Turn, WasFed}
use Rattle.task_state.proofs.States.{determined, mode_outcome, not_over, opens, state_children, state_prio}
use Rattle.priority_deques.specs.Tasks.{IsAtRest}
use Rattle.join_board.specs.declared.owned.Board.{Board}
use Rattle.join_board.specs.declared.owned.BoardSeat.{BoardSeat}
use Rattle.join_board.specs.declared.view.About.{About}
use Rattle.join_board.specs.declared.view.View.{View}
use Rattle.join_board.specs.Calls.{CanCommit, HasSeen, SameSeat}
use Rattle.join_board.specs.Handles.{about, knows}
use Rattle.join_board.specs.Jobs.{the_job}
use Rattle.join_board.specs.Logs.{CanWait, Each}
use Rattle.join_board.specs.Threads.{PrioOf, Spawns}
use Rattle.join_board.specs.Views.{HasSeenEnd, HasSeenSpawn}
use Rattle.join_board.proofs.Laws.{all_joins}
use Rattle.steal_runtime.specs.Inside.Seats.{Sits}
use Rattle.join_board.specs.Tasks.{CanRun}
use Rattle.join_board.proofs.Books.{all_of}
use Rattle.steal_runtime.proofs.Seats.{seen_end}

unfed_of : (o : Option Outcome') (b : Option (List ℕ)) (p : List ℕ) → unfed o b ≡ Some p → (o ≡ None) × (b ≡ Some p)
unfed_of None b p e = (refl, e)
unfed_of (Some o) b p e = absurd (none-some p e)

not_ended : (f : Phase) (p : List ℕ) → awaits_phase f ≡ Some p → outcome_in f ≡ None
not_ended (Ended o) p e = absurd (none-some p e)
not_ended f p e = refl

live_of : (job : Job) (t : TaskFields) (h : OfJob job t) → outcome_in h.state.phase ≡ None → has_ended t ≡ false
live_of job t h none = go t.over h.stands
  where
    go : (b : Bool) → Stands job t.local b h.state → (b || is_some (ended_with t.local.mode)) ≡ false
    go true st = absurd (none-some st.2.0 (sym none ∙ st.2.1))
    go false st = ap is_some (mode_outcome job.program t.local h.state st ∙ none)

-- a task that waits can lie in a lane
pub waits_rest : (job : Job) (p : List ℕ) (t : TaskFields) → OfJob job t → awaited_of t ≡ Some p → t.pending ≡ [] → IsAtRest job t
waits_rest job p t of waits none = let u = unfed_of t.fed (awaits_in t) p waits in record {
  task = of;
  live = live_of job t of (not_ended of.state.phase p (of.awaits ∙ u.1));
  pending = none;
  unfed = u.0;
}

pub start_rest : (job : Job) (t : TaskFields) → IsStart job t → IsAtRest job t
start_rest job t s = record { task = s.task; live = s.live; pending = s.pending; unfed = s.fed }

pub after_rest : (job : Job) (t u : TaskFields) → OfJob job u → has_ended t ≡ false → t.fed ≡ None → IsHandedOut t u → IsAtRest job u
after_rest job t u of live unfed h = record { task = of; live = h.ended ∙ live; pending = h.pending; unfed = h.fed ∙ unfed }

pub rest_runs : (job : Job) (v : View) (t : TaskFields) → IsAtRest job t → t.local.steps ≤ 2 ^ 59 → CanRun job v t
rest_runs job v t r room = record { task = r.task; pending = r.pending; live = r.live; room = room; fed = λ b w. absurd (true≢false (sym (subst IsSome r.unfed w.0))) }

-- a task to which the outcome of the thread that it awaits was fed can run, where that end was seen
pub fed_runs : (job : Job) (v : View) (t u : TaskFields) (o : Outcome') (p : List ℕ) → IsAtRest job t → t.local.steps ≤ 2 ^ 59 → awaited_of t ≡ Some p →
    u ≡ record t { fed = Some o } → OfJob job u → HasSeenEnd v p → CanRun job v u
fed_runs job v t u o p r room waits is of seen = let a = (unfed_of t.fed (awaits_in t) p waits).1 in record {
  task = of;
  pending = ap (λ (x : TaskFields). x.pending) is ∙ r.pending;
  live = ap has_ended is ∙ r.live;
  room = subst (λ (x : TaskFields). x.local.steps ≤ 2 ^ 59) (sym is) room;
  fed = λ b w. subst (HasSeenEnd v) (same_Some p b (sym (ap awaits_in is ∙ a) ∙ w.1)) seen;
}

-- the steps of a turn can be committed
pub can_publish : (b : Board) (st : BoardSeat) (u : TaskFields) (q by : ℕ) (s : SegmentFields) → Sits b st → length u.pending ≤ q → AllJoins (HasSeenEnd (knows st)) u.pending → IsSegmentFrom u by s → IsSegmentOf (the_job (about b)) s →
    (about b).quantum ≡ q → by < (about b).opened → CanCommit (knows st) s
can_publish b st u q by s sits few joins from of quantum worker =
    subst (λ (a : About). IsSegmentOf (the_job a) s × (length s.events ≤ a.quantum) × (s.worker < a.opened) × AllJoins (HasSeenEnd (knows st)) s.events) (sym sits.1) (
      of,
      (let e = ap length from.events in omega (arith, e, few, quantum)),
      subst (λ (n : ℕ). n < (about b).opened) (sym from.worker) worker,
      subst (AllJoins (HasSeenEnd (knows st))) (sym from.events) joins,
    )

-- where a segment was published its log was seen as long as its task has steps
pub seen_steps : (v : View) (u : TaskFields) (by : ℕ) (s : SegmentFields) (b : Bool) → IsSegmentFrom u by s → HasSeen v s.path (s.from + length s.events) b → HasSeen v u.local.path u.local.steps b
seen_steps v u by s b from h = (h.0, h.1, h.2, h.3 ∙ from.path, h.4 ∙ from.from, h.5)

-- the tasks that a commit hands out can lie in lanes
pub all_rest : (job : Job) (p : List ℕ) (ts : List Task) → Each (CanWait job p) ts → All (λ (t : Task). IsAtRest job (read_task t)) ts
all_rest job p ts h = All-from_recursion (λ (t : Task). IsAtRest job (read_task t)) ts (all_of (λ (t : Task). IsAtRest job (read_task t)) ts (λ i t at. let w = h i t at in waits_rest job p (read_task t) w.0 w.1 w.2))

pub turn_joins : (job k : Job) (v : View) (t u : TaskFields) (q : ℕ) → CanRun job v t → Turn k q t u → AllJoins (HasSeenEnd v) u.pending
turn_joins job k v t u q can turn = all_joins (WasFed t) (HasSeenEnd v) can.fed u.pending turn.joins

pub can_run_on : (job : Job) (v w : View) (t : TaskFields) → SameSeat v w → CanRun job v t → CanRun job w t
can_run_on job v w t same r = record { task = r.task; pending = r.pending; live = r.live; room = r.room; fed = λ b f. seen_end v w same b (r.fed b f) }

-- the child of a task whose Spawn was seen can be enrolled
pub has_spawned : (b : Board) (st : BoardSeat) (u c : TaskFields) (e : Bool) → Sits b st → OfJob (the_job (about b)) u → has_ended u ≡ false → IsLastChild (the_job (about b)) u c → HasSeen (knows st) u.local.path u.local.steps e → HasSeenSpawn (knows st) c.local.path
has_spawned b st u c e sits of live last h = let job = the_job (about b) in let whole = opens job u of (not_over u live).0 in let n = state_children job.program u.local of.state whole in
    let base : Spawns job u.local.path u.local.steps c.local.path = (of.state, last.number, determined job u of, (let k = last.children in omega (arith, n, k)), last.path) in
    (h.0, h.1, h.2, subst (λ (a : About). Spawns (the_job a) h.1.path h.1.length c.local.path) (sym sits.1) (subst (λ (z : List ℕ × ℕ). Spawns job z.0 z.1 c.local.path) (λ i. (sym h.3 i, sym h.4 i)) base))

pub prio_of : (job : Job) (c : TaskFields) → IsStart job c → PrioOf job c.local.path c.local.prio
prio_of job c s = let d = determined job c s.task in (d.0, s.task.state, d.2, state_prio job.program c.local s.task.state (opens job c s.task (not_over c s.live).0))
