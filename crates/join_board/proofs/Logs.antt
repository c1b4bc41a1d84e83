-- The shards read as a reached configuration after each kind of give.
use Rattle.std.proofs.Common.{◌≡◌, ◌≢◌, ℕ, zero, suc, ◌+◌, ◌-◌, ◌<◌, ◌≤◌, List, [], ◌∷◌, ◌++◌, length, set, sym, refl, ap, ◌∙◌, subst, ⊎_elim, ◌⊎◌, inl, inr, arith, Option, Some, None, true, true≢false, length-set, length-append, append-nil, get_or-set_other, get_or-set_same, cond}
use mathlib.Core.Logic.{dite}
use mathlib.Core.Option.{some, some-injective, some-ne-none}
use native.Mathlib.Decide.{ℕ_discrete}
use lib.ListN.{get_elem?}
use lib.Seq.{set-get_or}
use Rattle.atomic_table.proofs.Lists.{at_set, at_snoc, set_else, at_longer}
use Rattle.priml_syntax.specs.Events.{spawns, ends, one_spawn, AllJoins}
use Rattle.priml_syntax.specs.Values.{Outcome'}
use Rattle.priml_syntax.proofs.Orders.{same_path_not}
use Rattle.core_steps.specs.Config.{Thread, Reached}
use Rattle.core_steps.specs.Determined.{IsIn, events_of, steps_of, unended, Trace}
use Rattle.task_state.specs.Segments.{IsSegmentOf}
use Rattle.trace_book.specs.Logs.{cut_of}
use Rattle.join_board.specs.Jobs.{the_job}
use Rattle.join_board.specs.Threads.{PrioOf, outcome_at, ended}
use Rattle.join_board.proofs.Paths.{either_path}
use Rattle.priml_syntax.specs.declared.event.Event.{Event}
use Rattle.priml_syntax.specs.declared.event.Event.TheVariants.{Start, Plain, Spawn, Join, Read, Wrote, End}
use Rattle.trace_book.specs.declared.segment.Cut.{Cut}
use Rattle.join_board.specs.Entries.{Entry}
use Rattle.task_state.specs.declared.task.Task.{Task}
use Rattle.join_board.specs.declared.view.Sight.{Sight}
use Rattle.trace_book.specs.Segments.{SegmentFields}
use Rattle.join_board.specs.declared.view.About.{About}
use Rattle.join_board.specs.Logs.{Each, log_in, log_of, shard_at, shard_of, size, spawned, finished, Shows, Covers, appended, fresh, parked_on, Missing, CanWait, HasEntry}
use Rattle.join_board.specs.Rule.{Placed, EntryTrue, KeepsLogs, Waits}
use Rattle.task_state.specs.Sums.{total}
use Rattle.task_state.proofs.Sums.{total_set, total_same, total_append, at_get}
use Rattle.join_board.proofs.Seen.{set_at, log_at, log_else, log_snoc, ShowsMore}
use Rattle.join_board.proofs.Keys.{Moved, moved_same, moved_appended, moved_parked, moved_snoc, each_shard, waits_kept}
use Rattle.join_board.proofs.Laws as law

-- what a give of x for the shard `copy` does to the reading
pub record Turned (key : About) (shards : List (List Entry)) (c : List Thread) (k : ℕ) (copy x : List Entry) : Type 0 where
  pub config : List Thread
  pub logs : KeepsLogs key (set shards k x) config
  pub steps : steps_of config ≡ steps_of c + (size x - size copy)
  pub alive : unended config + (finished x - finished copy) ≡ unended c + (spawned x - spawned copy)
  pub over : unended c ≡ 0 → unended config ≡ 0
  pub shows : ShowsMore shards (set shards k x)
  pub moved : Moved copy x
  pub waits : Each (Waits key) x

pub spawns_append : (xs ys : List Event) → spawns (xs ++ ys) ≡ spawns xs + spawns ys
spawns_append [] ys = omega arith
spawns_append (x ∷ xs) ys = let h = spawns_append xs ys in omega (arith, h)

pub ends_append : (xs ys : List Event) → ends (xs ++ ys) ≡ ends xs + ends ys
ends_append [] ys = omega arith
ends_append (x ∷ xs) ys = let h = ends_append xs ys in omega (arith, h)

spawn_few : (e : Event) → one_spawn e ≤ 1
spawn_few Start = omega arith
spawn_few Plain = omega arith
spawn_few Spawn = omega arith
spawn_few (Join b) = omega arith
spawn_few Read = omega arith
spawn_few (Wrote n) = omega arith
spawn_few End = omega arith

spawns_few : (es : List Event) → spawns es ≤ length es
spawns_few [] = omega arith
spawns_few (e ∷ es) = let h = spawns_few es in let a = spawn_few e in omega (arith, h, a)

covers_snoc : (key : About) (n : ℕ) (cs : List Cut) (m : ℕ) (c : Cut) → Covers key n cs m → c.from ≡ m → 0 < c.steps → c.steps ≤ key.quantum → c.worker < key.opened → Covers key n (cs ++ c ∷ []) (m + c.steps)
covers_snoc key n [] m c h from some_step few worker = (from ∙ sym h, some_step, few, worker, ap (λ (z : ℕ). z + c.steps) h)
covers_snoc key n (d ∷ ds) m c h from some_step few worker = (h.0, h.1, h.2, h.3, covers_snoc key (n + d.steps) ds m c h.4 from some_step few worker)

-- an item of a list with one more is of the list, or is that one at its end
at_end : (l : List Entry) (a : Entry) (j : ℕ) (b : Entry) → get_elem? (l ++ a ∷ []) j ≡ some b → (get_elem? l j ≡ some b) ⊎ ((j ≡ length l) × (a ≡ b))
at_end [] a zero b e = inr (refl, some-injective a b e)
at_end [] a (suc j) b e = absurd (some-ne-none b (sym e))
at_end (x ∷ xs) a zero b e = inl e
at_end (x ∷ xs) a (suc j) b e = ⊎_elim (λ h. inl h) (λ (h : (j ≡ length xs) × (a ≡ b)). inr (ap suc h.0, h.1)) (at_end xs a j b e)

pub log_missing : (z : List Entry) (p : List ℕ) → Missing z p → log_in z p ≡ []
log_missing [] p m = refl
log_missing (e ∷ es) p m = ap (λ b. cond b e.log.events (log_in es p)) (same_path_not e.log.path p (m 0 e refl)) ∙ log_missing es p (λ i f g. m (suc i) f g)

pub no_option : (o : Option Outcome') → ((x : Outcome') → o ≡ Some x → ⊥) → None ≡ o
no_option None n = refl
no_option (Some x) n = absurd (n x refl)

module _ (key : About) (shards : List (List Entry)) (c : List Thread) (r : KeepsLogs key shards c) (k : ℕ) (lt : k < 64) where
  -- a value of the thread's shard, for the thread's log
  module _ (i : ℕ) (e e' : Entry) (at : get_elem? (shard_at shards k) i ≡ some e) (path : e'.log.path ≡ e.log.path) where
    here : shard_at (set shards k (set (shard_at shards k) i e')) k ≡ set (shard_at shards k) i e'
    here = get_or-set_same shards k (set (shard_at shards k) i e') [] (let l = r.deep in omega (arith, l, lt))

    pub old_log : log_of shards e.log.path ≡ e.log.events
    old_log = let own = r.placed k lt i e at in ap (λ (j : ℕ). log_in (shard_at shards j) e.log.path) own.0 ∙ log_at (shard_at shards k) i e at own.2

    same_paths : (j : ℕ) (f : Entry) → get_elem? (set (shard_at shards k) i e') j ≡ some f → f.log.path ≡ e.log.path → j ≡ i
    same_paths j f g q = let own = r.placed k lt i e at in ⊎_elim (λ (t : (j ≡ i) × (e' ≡ f)). t.0) (λ (t : (j ≢ i) × (get_elem? (shard_at shards k) j ≡ some f)). own.2 j f t.1 q) (at_set (shard_at shards k) i j e' f g)

    pub new_log : log_of (set shards k (set (shard_at shards k) i e')) e.log.path ≡ e'.log.events
    new_log = let own = r.placed k lt i e at in let x = set (shard_at shards k) i e' in ap (λ (j : ℕ). log_in (shard_at (set shards k x) j) e.log.path) own.0 ∙ (ap (λ (z : List Entry). log_in z e.log.path) here
        ∙ (ap (log_in x) (sym path) ∙ log_at x i e' (set_at (shard_at shards k) i e e' at) (λ j f g q. same_paths j f g (q ∙ path))))

    pub other_log : (q : List ℕ) → q ≢ e.log.path → log_of (set shards k (set (shard_at shards k) i e')) q ≡ log_of shards q
    other_log q n = let x = set (shard_at shards k) i e' in dite (ℕ_discrete (shard_of q) k)
        (λ a. ap (λ (j : ℕ). log_in (shard_at (set shards k x) j) q) a ∙ (ap (λ (z : List Entry). log_in z q) here ∙ (log_else (shard_at shards k) i e e' q at path n ∙ ap (λ (j : ℕ). log_in (shard_at shards j) q) (sym a))))
        (λ a. ap (λ (z : List Entry). log_in z q) (get_or-set_other shards k (shard_of q) x [] a))

    -- the shards read as d, where only the thread's part of the reading changed
    pub logs_set : (d : List Thread) → Reached (the_job key) d → events_of d e.log.path ≡ e'.log.events → ((q : List ℕ) → q ≢ e.log.path → events_of d q ≡ events_of c q) → ((q : List ℕ) → IsIn c q → IsIn d q) → ((q : List ℕ) → q ≢ e.log.path → IsIn c q → outcome_at d q ≡ outcome_at c q)
        → EntryTrue key d e' → steps_of d + length e.log.events ≡ steps_of c + length e'.log.events → unended d ≤ length (the_job key).program.mains + steps_of d → KeepsLogs key (set shards k (set (shard_at shards k) i e')) d
    logs_set d reached mine others wider states true_now steps few = let x = set (shard_at shards k) i e' in let own = r.placed k lt i e at in record {
      deep = length-set shards k x ∙ r.deep;
      reached = reached;
      reads = λ q. either_path q e.log.path (λ a. ap (events_of d) a ∙ (mine ∙ (sym new_log ∙ ap (log_of (set shards k x)) (sym a)))) (λ n. others q n ∙ (r.reads q ∙ sym (other_log q n)));
      placed = λ j l. dite (ℕ_discrete j k)
          (λ a. subst (λ (z : ℕ). Placed d z (shard_at (set shards k x) z)) (sym a) (subst (Placed d k) (sym here) (λ n f g. ⊎_elim
          (λ (t : (n ≡ i) × (e' ≡ f)). let fp : f.log.path ≡ e.log.path = ap (λ (u : Entry). u.log.path) (sym t.1) ∙ path in (ap (λ (z : List ℕ). shard_of z) fp ∙ own.0, wider f.log.path (subst (IsIn c) (sym fp) own.1), λ m z b q. same_paths m z b (q ∙ fp) ∙ sym t.0))
          (λ (t : (n ≢ i) × (get_elem? (shard_at shards k) n ≡ some f)). let its = r.placed k lt n f t.1 in (
            its.0,
            wider f.log.path its.1,
            λ m z b q. ⊎_elim (λ (w : (m ≡ i) × (e' ≡ z)). absurd (t.0 (own.2 n f t.1 (sym q ∙ (ap (λ (u : Entry). u.log.path) (sym w.1) ∙ path)))))
                (λ (w : (m ≢ i) × (get_elem? (shard_at shards k) m ≡ some z)). its.2 m z w.1 q) (at_set (shard_at shards k) i m e' z b),
          ))
          (at_set (shard_at shards k) i n e' f g))))
          (λ a. subst (Placed d j) (sym (get_or-set_other shards k j x [] a)) (λ n f g. let o = r.placed j l n f g in (o.0, wider f.log.path o.1, o.2)));
      entries = λ j l. let same : (n : ℕ) (f : Entry) → get_elem? (shard_at shards j) n ≡ some f → f.log.path ≢ e.log.path → EntryTrue key d f = λ n f g apart. let o = r.entries j l n f g in (o.0, o.1 ∙ sym (states f.log.path apart (r.placed j l n f g).1), o.2) in dite (ℕ_discrete j k)
          (λ a. subst (λ (z : ℕ). Each (EntryTrue key d) (shard_at (set shards k x) z)) (sym a) (subst (Each (EntryTrue key d)) (sym here) (λ n f g. ⊎_elim
          (λ (t : (n ≡ i) × (e' ≡ f)). subst (EntryTrue key d) t.1 true_now)
          (λ (t : (n ≢ i) × (get_elem? (shard_at shards k) n ≡ some f)). same n f (subst (λ (z : ℕ). get_elem? (shard_at shards z) n ≡ some f) (sym a) t.1) (λ q. t.0 (own.2 n f t.1 q)))
          (at_set (shard_at shards k) i n e' f g))))
          (λ a. subst (Each (EntryTrue key d)) (sym (get_or-set_other shards k j x [] a)) (λ n f g. same n f g (λ q. a (sym (r.placed j l n f g).0 ∙ (ap (λ (z : List ℕ). shard_of z) q ∙ own.0)))));
      work = let a = total_set size shards k (shard_at shards k) x (at_get shards k [] (let l = r.deep in omega (arith, l, lt))) in let b = total_set (λ (u : Entry). length u.log.events) (shard_at shards k) i e e' at in let w = r.work in omega (arith, a, b, w, steps);
      few = few;
      roots = r.roots;
    }

    -- an entry stays where it is
    still_at : (p : List ℕ) → HasEntry shards p → HasEntry (set shards k (set (shard_at shards k) i e')) p
    still_at p h = let x = set (shard_at shards k) i e' in dite (ℕ_discrete (shard_of p) k)
        (λ a. dite (ℕ_discrete h.0 i)
        (λ b. let same : e ≡ h.1.0 = some-injective e h.1.0 (sym at ∙ (subst (λ (j : ℕ). get_elem? (shard_at shards k) j ≡ some h.1.0) b (subst (λ (j : ℕ). get_elem? (shard_at shards j) h.0 ≡ some h.1.0) a h.1.1))) in
        (i, (e', ap (λ (j : ℕ). get_elem? (shard_at (set shards k x) j) i) a ∙ (ap (λ (z : List Entry). get_elem? z i) here ∙ set_at (shard_at shards k) i e e' at), path ∙ (ap (λ (u : Entry). u.log.path) same ∙ h.1.2))))
        (λ n. (h.0, (h.1.0, ap (λ (j : ℕ). get_elem? (shard_at (set shards k x) j) h.0) a ∙ (ap (λ (z : List Entry). get_elem? z h.0) here ∙ (set_else (shard_at shards k) i h.0 e' n ∙ (ap (λ (j : ℕ). get_elem? (shard_at shards j) h.0) (sym a) ∙ h.1.1))), h.1.2))))
        (λ n. (h.0, (h.1.0, ap (λ (z : List Entry). get_elem? z h.0) (get_or-set_other shards k (shard_of p) x [] n) ∙ h.1.1, h.1.2)))

    -- what was seen stays so, where the log grew and had not ended, or is the same
    shown : (es : List Event) → e'.log.events ≡ e.log.events ++ es → (es ≡ []) ⊎ (ended e.log.events ≡ true → ⊥) → (t : Sight) → Shows shards t → (t.length ≤ length (log_of (set shards k (set (shard_at shards k) i e')) t.path)) × (t.ended ≡ true → ended (log_of (set shards k (set (shard_at shards k) i e')) t.path) ≡ true)
    shown es is went t h = let shards' = set shards k (set (shard_at shards k) i e') in either_path t.path e.log.path
        (λ a. let old : log_of shards t.path ≡ e.log.events = ap (log_of shards) a ∙ old_log in let now : log_of shards' t.path ≡ e.log.events ++ es = ap (log_of shards') a ∙ (new_log ∙ is) in (
          (let l = h.0 in let lo = ap length old in let ln = ap length now ∙ length-append e.log.events es in omega (arith, l, lo, ln)),
          λ z. ⊎_elim (λ (bare : es ≡ []). ap ended (now ∙ (ap (λ (zs : List Event). e.log.events ++ zs) bare ∙ append-nil e.log.events)) ∙ (ap ended (sym old) ∙ h.1 z)) (λ (n : ended e.log.events ≡ true → ⊥). absurd (n (ap ended (sym old) ∙ h.1 z))) went,
        ))
        (λ n. subst (λ (l : List Event). (t.length ≤ length l) × (t.ended ≡ true → ended l ≡ true)) (sym (other_log t.path n)) (h.0, h.1))

    pub shows_set : (es : List Event) → e'.log.events ≡ e.log.events ++ es → (es ≡ []) ⊎ (ended e.log.events ≡ true → ⊥) → ShowsMore shards (set shards k (set (shard_at shards k) i e'))
    shows_set es is went t h = let pair = shown es is went t h in (pair.0, pair.1, still_at t.path h.2)

    -- the other entries of the shard are as they were
    pub each_entry : (F : Entry → Type 0) → F e' → Each F (shard_at shards k) → Each F (set (shard_at shards k) i e')
    each_entry F mine all j f g = ⊎_elim (λ (t : (j ≡ i) × (e' ≡ f)). subst F t.1 mine) (λ (t : (j ≢ i) × (get_elem? (shard_at shards k) j ≡ some f)). all j f t.1) (at_set (shard_at shards k) i j e' f g)

  pub turned_same : Each (Waits key) (shard_at shards k) → Turned key shards c k (shard_at shards k) (shard_at shards k)
  turned_same waits = let same : set shards k (shard_at shards k) ≡ shards = set-get_or shards k [] in record {
    config = c;
    logs = subst (λ (z : List (List Entry)). KeepsLogs key z c) (sym same) r;
    steps = omega arith;
    alive = omega arith;
    over = λ z. z;
    shows = λ t h. subst (λ (z : List (List Entry)). Shows z t) (sym same) h;
    moved = moved_same (shard_at shards k);
    waits = waits;
  }

  pub turned_segment : (i : ℕ) (e : Entry) (s : SegmentFields) → get_elem? (shard_at shards k) i ≡ some e → s.path ≡ e.log.path → s.from ≡ length e.log.events → IsSegmentOf (the_job key) s → AllJoins (λ b. ended (events_of c b) ≡ true) s.events
      → length s.events ≤ key.quantum → s.worker < key.opened → Each (Waits key) (shard_at shards k) → Turned key shards c k (shard_at shards k) (set (shard_at shards k) i (appended e s))
  turned_segment i e s at path from steps joins quantum worker waits = let job = (the_job key) in let e' = appended e s in let es = s.events in let x = set (shard_at shards k) i e' in
      let old : log_of shards e.log.path ≡ e.log.events = old_log i e e' at refl in let inside = (r.placed k lt i e at).1 in
      let trace : Trace job e.log.path s.from es steps.state = subst (λ (p : List ℕ). Trace job p s.from es steps.state) path steps.trace in let count : s.from ≡ length (events_of c e.log.path) = from ∙ ap length (sym (r.reads e.log.path ∙ old)) in
      let g = law.segment job c e.log.path s.from es steps.state r.reached inside count trace joins in let d = g.0 in let now = g.1 in
      let goes_on : ended e.log.events ≡ true → ⊥ = λ z. let bare : length es ≡ 0 = ap length (law.stuck job c e.log.path s.from es steps.state r.reached count trace (ap ended (r.reads e.log.path ∙ old) ∙ z)) in let n = steps.some in omega (arith, bare, n) in
      let long = length-append e.log.events es in let its = r.entries k lt i e at in
      let grew : size x ≡ size (shard_at shards k) + length es = (let h = total_set (λ (u : Entry). length u.log.events) (shard_at shards k) i e e' at in omega (arith, h, long)) in
      let grew_spawns : spawned x ≡ spawned (shard_at shards k) + spawns es = (let h = total_set (λ (u : Entry). spawns u.log.events) (shard_at shards k) i e e' at in let l = spawns_append e.log.events es in omega (arith, h, l)) in
      let grew_ends : finished x ≡ finished (shard_at shards k) + ends es = (let h = total_set (λ (u : Entry). ends u.log.events) (shard_at shards k) i e e' at in let l = ends_append e.log.events es in omega (arith, h, l)) in
      let mine : events_of d e.log.path ≡ e.log.events ++ es = now.events ∙ ap (λ (l : List Event). l ++ es) (r.reads e.log.path ∙ old) in
      let true_now : EntryTrue key d e' = (
        its.0,
        steps.outcome ∙ sym now.outcome,
        subst (Covers key 0 (e.log.cuts ++ cut_of s ∷ [])) (sym long) (covers_snoc key 0 e.log.cuts (length e.log.events) (cut_of s) its.2 from steps.some quantum worker),
      ) in record {
        config = d;
        logs = logs_set i e e' at refl d now.reached mine now.others now.threads now.outcomes true_now (let n = now.steps in omega (arith, n, long)) (let n = now.count in let f = r.few in let m = now.steps in let l = spawns_few es in omega (arith, n, f, m, l));
        steps = let n = now.steps in omega (arith, n, grew);
        alive = let n = now.count in omega (arith, n, grew_spawns, grew_ends);
        over = λ z. absurd (goes_on (ap ended (sym (r.reads e.log.path ∙ old)) ∙ law.all_ended job c e.log.path r.reached inside z));
        shows = shows_set i e e' at refl es refl (inr goes_on);
        moved = moved_appended (shard_at shards k) i e e' s.outcome at refl;
        waits = each_entry i e e' at refl (Waits key) (waits_kept key e e' (waits i e at) refl refl) waits;
      }

  pub turned_parked : (i : ℕ) (e : Entry) (t : Task) → get_elem? (shard_at shards k) i ≡ some e → e.log.outcome ≡ None → CanWait (the_job key) e.log.path t → Each (Waits key) (shard_at shards k) → Turned key shards c k (shard_at shards k) (set (shard_at shards k) i (parked_on e t))
  turned_parked i e t at open_still can waits = let e' = parked_on e t in let y = shard_at shards k in let x = set y i e' in let old : log_of shards e.log.path ≡ e.log.events = old_log i e e' at refl in let its = r.entries k lt i e at in
      let grew : size x ≡ size y = total_same (λ (u : Entry). length u.log.events) y i e e' at refl in let grew_spawns : spawned x ≡ spawned y = total_same (λ (u : Entry). spawns u.log.events) y i e e' at refl in
      let grew_ends : finished x ≡ finished y = total_same (λ (u : Entry). ends u.log.events) y i e e' at refl in record {
        config = c;
        logs = logs_set i e e' at refl c r.reached (r.reads e.log.path ∙ old) (λ _ _. refl) (λ _ h. h) (λ _ _ _. refl) (its.0, its.1, its.2) (omega arith) r.few;
        steps = omega (arith, grew);
        alive = omega (arith, grew_spawns, grew_ends);
        over = λ z. z;
        shows = shows_set i e e' at refl [] (sym (append-nil e.log.events)) (inl refl);
        moved = moved_parked y i e e' t at refl;
        waits = each_entry i e e' at refl (Waits key) (λ n u g. ⊎_elim (λ (h : get_elem? e.waiting n ≡ some u). waits i e at n u h) (λ (h : t ≡ u). (subst (CanWait (the_job key) e.log.path) h can, open_still)) (at_snoc e.waiting t u n g)) waits;
      }

  -- an entry without steps behind the others changes no log, and adds nothing
  log_behind : (e' : Entry) → e'.log.events ≡ [] → (q : List ℕ) → log_of (set shards k (shard_at shards k ++ e' ∷ [])) q ≡ log_of shards q
  log_behind e' none q = let y = shard_at shards k in let x = y ++ e' ∷ [] in let shards' = set shards k x in
      let here : shard_at shards' k ≡ x = get_or-set_same shards k x [] (let l = r.deep in omega (arith, l, lt)) in dite (ℕ_discrete (shard_of q) k)
      (λ b. ap (λ (j : ℕ). log_in (shard_at shards' j) q) b ∙ (ap (λ (z : List Entry). log_in z q) here ∙ (log_snoc y e' q none ∙ ap (λ (j : ℕ). log_in (shard_at shards j) q) (sym b))))
      (λ n. ap (λ (z : List Entry). log_in z q) (get_or-set_other shards k (shard_of q) x [] n))

  adds_none : (f : Entry → ℕ) (e' : Entry) → f e' ≡ 0 → total f (shard_at shards k ++ e' ∷ []) ≡ total f (shard_at shards k)
  adds_none f e' none = let h = total_append f (shard_at shards k) (e' ∷ []) in omega (arith, h, none)

  -- a thread of the reading without an entry gets one
  pub enrolled_logs : (p : List ℕ) (a : ℕ) → shard_of p ≡ k → IsIn c p → Missing (shard_at shards k) p → PrioOf (the_job key) p a → KeepsLogs key (set shards k (shard_at shards k ++ fresh p a ∷ [])) c
  enrolled_logs p a here_is inside missing prio = let e' = fresh p a in let y = shard_at shards k in let x = y ++ e' ∷ [] in let shards' = set shards k x in
      let here : shard_at shards' k ≡ x = get_or-set_same shards k x [] (let l = r.deep in omega (arith, l, lt)) in
      let empty : events_of c p ≡ [] = r.reads p ∙ (ap (λ (j : ℕ). log_in (shard_at shards j) p) here_is ∙ log_missing y p missing) in
      let grew : size x ≡ size y = adds_none (λ (u : Entry). length u.log.events) e' refl in
      let true_now : EntryTrue key c e' = (prio, no_option (outcome_at c p) (λ o q. true≢false (sym (law.has_outcome (the_job key) c p o r.reached inside q) ∙ ap ended empty)), refl) in record {
        deep = length-set shards k x ∙ r.deep;
        reached = r.reached;
        reads = λ q. r.reads q ∙ sym (log_behind e' refl q);
        placed = λ j l. dite (ℕ_discrete j k)
            (λ b. subst (λ (z : ℕ). Placed c z (shard_at shards' z)) (sym b) (subst (Placed c k) (sym here) (λ n f g. ⊎_elim
            (λ (h : get_elem? y n ≡ some f). let own = r.placed k lt n f h in (own.0, own.1, λ m z q w. ⊎_elim (λ (u : get_elem? y m ≡ some z). own.2 m z u w) (λ (u : (m ≡ length y) × (e' ≡ z)). absurd (missing n f h (sym w ∙ ap (λ (v : Entry). v.log.path) (sym u.1)))) (at_end y e' m z q)))
            (λ (h : (n ≡ length y) × (e' ≡ f)). let fp : p ≡ f.log.path = ap (λ (v : Entry). v.log.path) h.1 in (
              ap (λ (z : List ℕ). shard_of z) (sym fp) ∙ here_is,
              subst (IsIn c) fp inside,
              λ m z q w. ⊎_elim (λ (u : get_elem? y m ≡ some z). absurd (missing m z u (w ∙ sym fp))) (λ (u : (m ≡ length y) × (e' ≡ z)). u.0 ∙ sym h.0) (at_end y e' m z q),
            ))
            (at_end y e' n f g))))
            (λ b. subst (Placed c j) (sym (get_or-set_other shards k j x [] b)) (r.placed j l));
        entries = each_shard (EntryTrue key c) shards k x r.deep lt r.entries (λ n f g. ⊎_elim (λ (h : get_elem? y n ≡ some f). r.entries k lt n f h) (λ (h : e' ≡ f). subst (EntryTrue key c) h true_now) (at_snoc y e' f n g));
        work = let b = total_set size shards k y x (at_get shards k [] (let l = r.deep in omega (arith, l, lt))) in let w = r.work in omega (arith, b, w, grew);
        few = r.few;
        roots = r.roots;
      }

  -- an entry stays where one more comes behind it
  pub stays_behind : (e' : Entry) (p : List ℕ) → HasEntry shards p → HasEntry (set shards k (shard_at shards k ++ e' ∷ [])) p
  stays_behind e' p at = let y = shard_at shards k in let x = y ++ e' ∷ [] in let shards' = set shards k x in let here : shard_at shards' k ≡ x = get_or-set_same shards k x [] (let l = r.deep in omega (arith, l, lt)) in dite (ℕ_discrete (shard_of p) k)
      (λ b. (at.0, (at.1.0, ap (λ (j : ℕ). get_elem? (shard_at shards' j) at.0) b ∙ (ap (λ (z : List Entry). get_elem? z at.0) here ∙ at_longer y (e' ∷ []) at.0 at.1.0 (subst (λ (j : ℕ). get_elem? (shard_at shards j) at.0 ≡ some at.1.0) b at.1.1)), at.1.2)))
      (λ n. (at.0, (at.1.0, ap (λ (z : List Entry). get_elem? z at.0) (get_or-set_other shards k (shard_of p) x [] n) ∙ at.1.1, at.1.2)))

  pub turned_enrolled : (p : List ℕ) (a : ℕ) → shard_of p ≡ k → IsIn c p → Missing (shard_at shards k) p → PrioOf (the_job key) p a → Each (Waits key) (shard_at shards k) → Turned key shards c k (shard_at shards k) (shard_at shards k ++ fresh p a ∷ [])
  turned_enrolled p a here_is inside missing prio waits = let e' = fresh p a in let y = shard_at shards k in let x = y ++ e' ∷ [] in let shards' = set shards k x in
      let grew : size x ≡ size y = adds_none (λ (u : Entry). length u.log.events) e' refl in let grew_spawns : spawned x ≡ spawned y = adds_none (λ (u : Entry). spawns u.log.events) e' refl in
      let grew_ends : finished x ≡ finished y = adds_none (λ (u : Entry). ends u.log.events) e' refl in record {
        config = c;
        logs = enrolled_logs p a here_is inside missing prio;
        steps = omega (arith, grew);
        alive = omega (arith, grew_spawns, grew_ends);
        over = λ z. z;
        shows = λ t h. let pair = subst (λ (l : List Event). (t.length ≤ length l) × (t.ended ≡ true → ended l ≡ true)) (sym (log_behind e' refl t.path)) (h.0, h.1) in (pair.0, pair.1, stays_behind e' t.path h.2);
        moved = moved_snoc y e' refl;
        waits = λ n f g. ⊎_elim (λ (h : get_elem? y n ≡ some f). waits n f h) (λ (h : e' ≡ f). subst (Waits key) h (λ m u b. absurd (some-ne-none u (sym b)))) (at_snoc y e' f n g);
      }
