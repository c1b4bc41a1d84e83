-- The rule holds of the table at the start.
use Rattle.std.proofs.Common.{◌≡◌, ◌≢◌, ℕ, zero, suc, ◌+◌, ◌^◌, ◌<◌, ◌≤◌, List, [], ◌∷◌, ◌++◌, map, length, replicate, get_or, set, sym, refl, ap, ◌∙◌, subst, ⊎_elim, inl, arith, Option, Some, None, Result, Ok, Err, IfOk, OnOk, length-set, get_or-set_other, get_or-set_same}
use mathlib.Core.Logic.{dite}
use mathlib.Core.Option.{some, some-injective, some-ne-none}
use native.Mathlib.Decide.{ℕ_discrete}
use lib.ListN.{get_elem?}
use Rattle.atomic_table.specs.Table.{opening}
use Rattle.atomic_table.proofs.Lists.{at_index, at_last, at_map, at_snoc}
use Rattle.core_steps.specs.Config.{begin}
use Rattle.core_steps.specs.Determined.{IsIn, unended}
use Rattle.core_steps.specs.Fields.{LocalFields, state_of}
use Rattle.core_steps.specs.Locals.{IsLocal}
use Rattle.core_steps.specs.Steps.{Job, State, Ran, root_state}
use Rattle.core_steps.proofs.CoreLaws.{core_laws}
use Rattle.priml_syntax.specs.Tree.{Routine}
use Rattle.std.specs.Option.{option_map}
use Rattle.std.specs.Prelude.{slice_get}
use Rattle.std.proofs.lemmas.Option.{none-some, same_Some}
use Rattle.core_steps.specs.Steps.{Phase}
use Rattle.core_steps.specs.Fields.{phase_of}
use Rattle.core_steps.proofs.Moves.{in_phase}
use Rattle.priml_syntax.specs.Tree.{Tree}
use Rattle.join_board.specs.Threads.{PrioOf}
use Rattle.task_state.specs.declared.task.Task.{Task}
use Rattle.task_state.specs.Tasks.{TaskKey}
use Rattle.join_board.specs.Entries.{Entry}
use Rattle.join_board.specs.Jobs.{the_job}
use Rattle.join_board.specs.Inside.Openings.{FirstShards, IsRooted}
use Rattle.join_board.specs.declared.view.About.{About}
use Rattle.join_board.specs.declared.view.View.{View}
use Rattle.task_state.specs.Sums.{total}
use Rattle.join_board.specs.Logs.{Each, HasEntry, log_in, shard_at, shard_of, size, fresh, weigh, keys, Missing}
use Rattle.join_board.specs.Views.{newcomer}
use Rattle.join_board.specs.Rule.{word_of, spent_word, stop_word, Placed, EntryTrue, SeatTrue, HandTrue, SeenTrue, LiveTrue, StopTrue, Waits, KeepsLogs, Keeps}
use Rattle.task_state.proofs.Sums.{at_get, at_lt, total_zero}
use Rattle.join_board.proofs.Hands.{has_none}
use Rattle.join_board.proofs.Logs.{enrolled_logs, stays_behind}

abbrev pub Shards : Type 0
Shards = List (List Entry)

get_replicate : {A : Type 0} (n j : ℕ) (x d : A) → x ≡ d → get_or (replicate n x) j d ≡ d
get_replicate zero j x d e = refl
get_replicate (suc n) zero x d e = e
get_replicate (suc n) (suc j) x d e = get_replicate n j x d e

at_replicate : {A : Type 0} (n j : ℕ) (x : A) → j < n → get_elem? (map (λ (y : Option A). some y) (map (λ (y : A). Some y) (replicate n x))) j ≡ some (some (Some x))
at_replicate zero j x l = absurd (omega (arith, l))
at_replicate (suc n) zero x l = refl
at_replicate (suc n) (suc j) x l = at_replicate n j x (omega (arith, l))

pub map_replicate : {A B : Type 0} (f : A → B) (n : ℕ) (x : A) → map f (replicate n x) ≡ replicate n (f x)
map_replicate f zero x = refl
map_replicate f (suc n) x = ap (λ ys. f x ∷ ys) (map_replicate f n x)

total_replicate : {A : Type 0} (f : A → ℕ) (n : ℕ) (x : A) → f x ≡ 0 → total f (replicate n x) ≡ 0
total_replicate f zero x e = refl
total_replicate f (suc n) x e = let h = total_replicate f n x e in omega (arith, h, e)

pub len_replicate : {A : Type 0} (n : ℕ) (x : A) → length (replicate n x) ≡ n
len_replicate zero x = refl
len_replicate (suc n) x = let h = len_replicate n x in omega (arith, h)

pub replicate_next : {A : Type 0} (n : ℕ) (x : A) → replicate n x ++ x ∷ [] ≡ replicate (n + 1) x
replicate_next zero x = refl
replicate_next (suc n) x = ap (λ ys. x ∷ ys) (replicate_next n x) ∙ (let e : suc (n + 1) ≡ suc n + 1 = omega arith in ap (λ (k : ℕ). replicate k x) e)

one_view : (F : View → Type 0) (v : View) → F v → Each F (v ∷ [])
one_view F v h zero u e = subst F (some-injective v u e) h
one_view F v h (suc i) u e = absurd (some-ne-none u (sym e))

shard_empty : (n k : ℕ) → shard_at (replicate n []) k ≡ []
shard_empty n k = get_replicate {A = List Entry} n k [] [] refl

none_at : (F : Entry → Type 0) → Each F []
none_at F i e at = absurd (some-ne-none e (sym at))

mod_small : (p : List ℕ) → shard_of p < 64
mod_small p = omega arith

module _ (key : About) where
  -- the roots below the k-th have entries, and those from it on have none yet
  pub record Rooted (k : ℕ) (shards : Shards) : Type 0 where
    pub logs : KeepsLogs key shards (begin (the_job key))
    pub idle : (j : ℕ) → j < 64 → Each (λ (e : Entry). e.waiting ≡ []) (shard_at shards j)
    pub rooted : (j : ℕ) → j < k → HasEntry shards (j ∷ [])
    pub later : (j : ℕ) → k ≤ j → Missing (shard_at shards (shard_of (j ∷ []))) (j ∷ [])

  pub bare : (n : ℕ) → n ≡ 64 → length (the_job key).program.mains < 2 ^ 32 → Rooted 0 (replicate n [])
  bare n is few = let starts = (core_laws (the_job key)).starts in record {
    logs = record {
      deep = len_replicate {A = List Entry} n [] ∙ is;
      reached = starts.reached;
      reads = λ p. starts.empty p ∙ sym (ap (λ (x : List Entry). log_in x p) (shard_empty n (shard_of p)));
      placed = λ k l. subst (Placed (begin (the_job key)) k) (sym (shard_empty n k)) (λ i e at. absurd (some-ne-none e (sym at)));
      entries = λ k l. subst (Each (EntryTrue key (begin (the_job key)))) (sym (shard_empty n k)) (none_at (EntryTrue key (begin (the_job key))));
      work = let h = total_replicate size n [] refl in let s = starts.no_steps in omega (arith, h, s);
      few = let u = starts.live in omega (arith, u);
      roots = few;
    };
    idle = λ k l. subst (Each (λ (e : Entry). e.waiting ≡ [])) (sym (shard_empty n k)) (none_at (λ (e : Entry). e.waiting ≡ []));
    rooted = λ j l. absurd (omega (arith, l));
    later = λ j l. subst (λ (x : List Entry). Missing x (j ∷ [])) (sym (shard_empty n (shard_of (j ∷ [])))) (λ i e at. absurd (some-ne-none e (sym at)));
  }

  idle_waits : (e : Entry) → e.waiting ≡ [] → Waits key e
  idle_waits e bare_list i t at = absurd (some-ne-none t (sym (ap (λ (ts : List Task). get_elem? ts i) (sym bare_list) ∙ at)))

  head_differs : (k j : ℕ) → k < j → k ∷ [] ≢ j ∷ []
  head_differs k j l e = let h : k ≡ j = ap (λ (xs : List ℕ). get_or xs 0 0) e in omega (arith, h, l)

  -- one root more
  pub root_next : (k : ℕ) (old new : Shards) → Rooted k old → k < length (the_job key).program.mains → IsRooted (the_job key) k old new → Rooted (k + 1) new
  root_next k old new r inside more = let s = shard_of (k ∷ []) in let y = shard_at old s in let f = fresh (k ∷ []) more.0 in let x = y ++ f ∷ [] in let logs = r.logs in let small : s < 64 = mod_small (k ∷ []) in
      let here : shard_at (set old s x) s ≡ x = get_or-set_same old s x [] (let d = logs.deep in omega (arith, d, small)) in
      let there : IsIn (begin (the_job key)) (k ∷ []) = ((core_laws (the_job key)).starts.roots (k ∷ [])).1 (k, inside, refl) in
      let idle = r.idle s small in let missing = r.later k (omega arith) in
      subst (Rooted (k + 1)) (sym more.2) (record {
        logs = enrolled_logs key old (begin (the_job key)) logs s small (k ∷ []) more.0 refl there missing more.1;
        idle = λ j l. dite (ℕ_discrete j s)
            (λ a. subst (λ (z : ℕ). Each (λ (e : Entry). e.waiting ≡ []) (shard_at (set old s x) z)) (sym a) (subst (Each (λ (e : Entry). e.waiting ≡ [])) (sym here)
            (λ i e at. ⊎_elim (λ (h : get_elem? y i ≡ some e). idle i e h) (λ (h : f ≡ e). ap (λ (u : Entry). u.waiting) (sym h)) (at_snoc y f e i at))))
            (λ n. subst (Each (λ (e : Entry). e.waiting ≡ [])) (sym (get_or-set_other old s j x [] n)) (r.idle j l));
        rooted = λ j l. dite (ℕ_discrete j k)
            (λ a. subst (λ (z : ℕ). HasEntry (set old s x) (z ∷ [])) (sym a) (length y, (f, ap (λ (z : List Entry). get_elem? z (length y)) here ∙ at_last y f (length y) refl, refl)))
            (λ n. stays_behind key old (begin (the_job key)) logs s small f (j ∷ []) (r.rooted j (omega (arith, l, n))));
        later = λ j l. let q = shard_of (j ∷ []) in dite (ℕ_discrete q s)
            (λ a. subst (λ (z : List Entry). Missing z (j ∷ [])) (sym (ap (shard_at (set old s x)) a ∙ here))
            (λ i e at same. ⊎_elim (λ (h : get_elem? y i ≡ some e). r.later j (omega (arith, l)) i e (ap (λ (z : ℕ). get_elem? (shard_at old z) i) a ∙ h) same)
            (λ (h : f ≡ e). head_differs k j (omega (arith, l)) (ap (λ (u : Entry). u.log.path) h ∙ same)) (at_snoc y f e i at)))
            (λ n. subst (λ (z : List Entry). Missing z (j ∷ [])) (sym (get_or-set_other old s q x [] n)) (r.later j (omega (arith, l))));
      })

  -- the words: one live thread for each root, and 0 elsewhere
  module _ (m n : ℕ) (wide : m ≡ 1072) where
    word_zero : (i : ℕ) → 0 < i → get_or (set (replicate m 0) 0 n) i 0 ≡ 0
    word_zero i l = get_or-set_other (replicate m 0) 0 i n 0 (λ e. omega (arith, e, l)) ∙ get_replicate {A = ℕ} m i 0 0 refl

    word_live : get_or (set (replicate m 0) 0 n) 0 0 ≡ n
    word_live = get_or-set_same (replicate m 0) 0 n 0 (let h = len_replicate {A = ℕ} m 0 in omega (arith, h, wide))

    no_task : (h : TaskKey → ℕ) (shards : Shards) → FirstShards key shards → total (weigh h) shards ≡ 0
    no_task h shards f = total_zero (weigh h) shards (λ j x at. let small = at_lt shards j x at in let is = some-injective x (shard_at shards j) (sym at ∙ at_get shards j [] small) in
        total_zero (λ (e : Entry). total h (keys e.waiting)) x (λ i e g. ap (λ (ts : List Task). total h (keys ts)) (f.idle j (let d = f.logs.deep in omega (arith, d, small)) i e (ap (λ (z : List Entry). get_elem? z i) (sym is) ∙ g))))

    opens_with : (shards : Shards) → FirstShards key shards → n ≡ length (the_job key).program.mains → key.opened ≤ 16 → Keeps key (opening (set (replicate m 0) 0 n) (map (λ (y : List Entry). Some y) shards) (newcomer key))
    opens_with shards f all few = let v = newcomer key in let starts = (core_laws (the_job key)).starts in record {
      shards = shards;
      config = begin (the_job key);
      logs = f.logs;
      seats = record { each = one_view (SeatTrue key) v ((λ _. refl), omega arith, λ _. refl); own = (let s = starts.no_steps in omega (arith, s)); seats = omega arith; few = few };
      hands = record {
        wide = length-set (replicate m 0) 0 n ∙ (len_replicate {A = ℕ} m 0 ∙ wide);
        low = λ k l. let w = word_zero (word_of k) (omega arith) in omega (arith, w);
        hands = λ k l. let w = word_zero (word_of k) (omega arith) in let h = has_none v k refl in omega (arith, w, h);
        home = λ k l _. at_map (λ (y : Option (List Entry)). some y) (map (λ (y : List Entry). Some y) shards) k (Some (shard_at shards k)) (at_map (λ (y : List Entry). Some y) shards k (shard_at shards k) (at_get shards k [] (let d = f.logs.deep in omega (arith, d, l))));
        each = one_view (HandTrue shards) v (λ k e. absurd (omega (arith, e)));
      };
      seen = record { each = one_view (SeenTrue shards) v (λ i t e. absurd (some-ne-none t (sym e))); rooted = f.rooted };
      live = record { count = (let w = word_live in let u = starts.live in omega (arith, w, u, all)); each = one_view (LiveTrue (unended (begin (the_job key)))) v (omega arith, λ z. absurd (omega (arith, z))) };
      spent = record {
        sum = let w = word_zero spent_word (omega arith) in let s = starts.no_steps in omega (arith, w, s);
        cause = inl (word_zero stop_word (omega arith));
        each = one_view (StopTrue key _ _ _) v (omega arith, (λ z. absurd (omega (arith, z))), (λ z. absurd (omega (arith, z))), λ z. absurd (omega (arith, z)));
      };
      parked = record {
        balance = λ h. let z = no_task h shards f in omega (arith, z);
        waits = λ k l i e at. idle_waits e (f.idle k l i e at);
      };
    }

    pub opens : (ws : List ℕ) (xs : List (Option (List Entry))) (shards : Shards) → FirstShards key shards → n ≡ length (the_job key).program.mains → key.opened ≤ 16 → ws ≡ set (replicate m 0) 0 n → xs ≡ map (λ (y : List Entry). Some y) shards → Keeps key (opening ws xs (newcomer key))
    opens ws xs shards f all few w x = subst (λ (ys : List (Option (List Entry))). Keeps key (opening ws ys (newcomer key))) (sym x)
        (subst (λ (us : List ℕ). Keeps key (opening us (map (λ (y : List Entry). Some y) shards) (newcomer key))) (sym w) (opens_with shards f all few))

pub on_ok : {A B : Type 0} (r : Result A B) (P : A → Type 0) (Q : Type 0) → ((x : A) → P x → Q) → IfOk r P → OnOk r Q
on_ok (Ok x) P Q f h = f x h
on_ok (Err e) P Q f h = tt

state_prio : (p : Tree) (l : LocalFields) (s : State) → state_of p l ≡ Some s → s.prio ≡ l.prio
state_prio p l s e = go (phase_of p l l.mode) e
  where
    go : (o : Option Phase) → option_map (in_phase l) o ≡ Some s → s.prio ≡ l.prio
    go None h = absurd (none-some s h)
    go (Some f) h = ap (λ (x : State). x.prio) (sym (same_Some (in_phase l f) s h))

-- a root's local state tells its priority
pub root_prio : (job : Job) (k : ℕ) (l : LocalFields) → IsLocal job l → option_map (λ (m : Routine). root_state m k) (slice_get job.program.mains k) ≡ state_of job.program l → PrioOf job (k ∷ []) l.prio
root_prio job k l local is = let d = local.determined in let named = (core_laws job).one_state.named l.path d.0 local.state d.2 in let m = some_state (slice_get job.program.mains k) (is ∙ local.opens) in
    (d.0, local.state, subst (λ (p : List ℕ). Ran job p d.0 local.state) (sym named ∙ ap (λ (s : State). s.path) (sym m.1)) d.2, state_prio job.program l local.state local.opens)
  where
    some_state : (o : Option Routine) → option_map (λ (m : Routine). root_state m k) o ≡ Some local.state → (m : Routine) × (root_state m k ≡ local.state)
    some_state None e = absurd (none-some local.state e)
    some_state (Some m) e = (m, same_Some (root_state m k) local.state e)

-- an entry more at the end of the root's shard
pub rooted_by : (job : Job) (k : ℕ) (old : Shards) (s : ℕ) (p : List ℕ) (a : ℕ) (y b : List Entry) → p ≡ k ∷ [] → s ≡ shard_of p → length old ≡ 64 → s < 64 → b ≡ get_or old s b → y ≡ b ++ fresh p a ∷ [] → PrioOf job (k ∷ []) a → IsRooted job k old (set old s y)
rooted_by job k old s p a y b path here deep small there is prio =
    let inside : s < length old = omega (arith, deep, small) in
    let same : b ≡ shard_at old s = some-injective b (shard_at old s) (sym (at_index old s b inside there) ∙ at_get old s [] inside) in
    let place : s ≡ shard_of (k ∷ []) = here ∙ ap shard_of path in
    (a, prio, λ i. set old (place i) ((is ∙ ((λ j. same j ++ fresh (path j) a ∷ []) ∙ ap (λ (z : ℕ). shard_at old z ++ fresh (k ∷ []) a ∷ []) place)) i))
