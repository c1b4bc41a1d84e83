-- The keys of parked tasks.
use Rattle.std.proofs.Common.{◌≡◌, ℕ, zero, suc, ◌+◌, ◌<◌, List, [], ◌∷◌, ◌++◌, length, drop, set, sym, refl, ap, ◌∙◌, subst, arith, Option, Some, None}
use mathlib.Core.Option.{some, some-injective, some-ne-none}
use mathlib.Core.Logic.{dite}
use native.Mathlib.Decide.{ℕ_discrete}
use lib.ListN.{get_elem?}
use Rattle.std.proofs.Common.{get_or-set_same, get_or-set_other}
use Rattle.priml_syntax.specs.declared.value.Outcome.{Outcome}
use Rattle.join_board.specs.Entries.{Entry}
use Rattle.join_board.specs.Jobs.{the_job}
use Rattle.task_state.specs.declared.task.Task.{Task}
use Rattle.task_state.specs.Tasks.{TaskKey}
use Rattle.join_board.specs.declared.view.About.{About}
use Rattle.join_board.specs.declared.view.View.{View}
use Rattle.task_state.specs.Sums.{total}
use Rattle.join_board.specs.Logs.{Each, shard_at, weigh, keys, new_keys, kept, handed_out, CanWait}
use Rattle.join_board.specs.Inside.Views.{gave_view, left, right, both, spent_view}
use Rattle.join_board.specs.Rule.{Waits, KeepsParked}
use Rattle.task_state.proofs.Sums.{total_set, total_append, total_split, total_join, at_get}

drop_nil : {A : Type 0} (n : ℕ) → drop n (let xs : List A = [] in xs) ≡ []
drop_nil zero = refl
drop_nil (suc n) = refl

pub drop_all : {A : Type 0} (xs : List A) → drop (length xs) xs ≡ []
drop_all [] = refl
drop_all (x ∷ xs) = drop_all xs

pub drop_front : {A : Type 0} (xs ys : List A) → drop (length xs) (xs ++ ys) ≡ ys
drop_front [] ys = refl
drop_front (x ∷ xs) ys = drop_front xs ys

pub drop_longer : {A : Type 0} (xs ys : List A) → drop (length (xs ++ ys)) xs ≡ []
drop_longer [] ys = drop_nil (length ys)
drop_longer (x ∷ xs) ys = drop_longer xs ys

new_none : (xs ys : List Entry) → new_keys (xs ++ ys) xs ≡ []
new_none [] [] = refl
new_none [] (y ∷ ys) = refl
new_none (x ∷ xs) ys = λ i. keys (drop_all x.waiting i) ++ new_none xs ys i

pub new_snoc : (xs ys : List Entry) → new_keys xs (xs ++ ys) ≡ []
new_snoc [] ys = refl
new_snoc (x ∷ xs) ys = λ i. keys (drop_all x.waiting i) ++ new_snoc xs ys i

pub new_same : (xs : List Entry) → new_keys xs xs ≡ []
new_same [] = refl
new_same (x ∷ xs) = λ i. keys (drop_all x.waiting i) ++ new_same xs i

pub new_back : (xs ys : List Entry) → new_keys (xs ++ ys) xs ≡ []
new_back = new_none

plus_nil : {A : Type 0} (xs : List A) → xs ++ [] ≡ xs
plus_nil [] = refl
plus_nil (x ∷ xs) = ap (λ ys. x ∷ ys) (plus_nil xs)

pub new_set : (xs : List Entry) (i : ℕ) (e f : Entry) → get_elem? xs i ≡ some e → new_keys xs (set xs i f) ≡ keys (drop (length e.waiting) f.waiting)
new_set [] i e f h = absurd (some-ne-none e (sym h))
new_set (x ∷ xs) zero e f h = ap (λ ys. keys (drop (length x.waiting) f.waiting) ++ ys) (new_same xs) ∙ (plus_nil (keys (drop (length x.waiting) f.waiting)) ∙ ap (λ (u : Entry). keys (drop (length u.waiting) f.waiting)) (some-injective x e h))
new_set (x ∷ xs) (suc i) e f h = ap (λ zs. keys zs ++ new_keys xs (set xs i f)) (drop_all x.waiting) ∙ new_set xs i e f h

pub new_set_back : (xs : List Entry) (i : ℕ) (e f : Entry) → get_elem? xs i ≡ some e → new_keys (set xs i f) xs ≡ keys (drop (length f.waiting) e.waiting)
new_set_back [] i e f h = absurd (some-ne-none e (sym h))
new_set_back (x ∷ xs) zero e f h = ap (λ ys. keys (drop (length f.waiting) x.waiting) ++ ys) (new_same xs) ∙ (plus_nil (keys (drop (length f.waiting) x.waiting)) ∙ ap (λ (u : Entry). keys (drop (length f.waiting) u.waiting)) (some-injective x e h))
new_set_back (x ∷ xs) (suc i) e f h = ap (λ zs. keys zs ++ new_keys (set xs i f) xs) (drop_all x.waiting) ∙ new_set_back xs i e f h

pub drop_kept : (o : Option Outcome) (ts : List Task) → drop (length ts) (kept o ts) ≡ []
drop_kept None ts = drop_all ts
drop_kept (Some x) ts = drop_nil (length ts)

pub drop_out : (o : Option Outcome) (ts : List Task) → drop (length (kept o ts)) ts ≡ handed_out o ts
drop_out None ts = drop_all ts
drop_out (Some x) ts = refl

total_keys : (h : TaskKey → ℕ) (xs ys : List Task) → total h (keys (xs ++ ys)) ≡ total h (keys xs) + total h (keys ys)
total_keys h [] ys = omega arith
total_keys h (x ∷ xs) ys = let o = total_keys h xs ys in omega (arith, o)

-- what came to the shard, and what was in it, is what left it, and what is in it
abbrev pub Moved : List Entry → List Entry → Type 0
Moved y x = (h : TaskKey → ℕ) → total h (new_keys y x) + weigh h y ≡ total h (new_keys x y) + weigh h x

moved_set : (xs : List Entry) (i : ℕ) (e f : Entry) → get_elem? xs i ≡ some e → ((h : TaskKey → ℕ) → total h (keys (drop (length e.waiting) f.waiting)) + total h (keys e.waiting) ≡ total h (keys (drop (length f.waiting) e.waiting)) + total h (keys f.waiting)) → Moved xs (set xs i f)
moved_set xs i e f at same h = let a = ap (total h) (new_set xs i e f at) in let b = ap (total h) (new_set_back xs i e f at) in let c = total_set (λ (u : Entry). total h (keys u.waiting)) xs i e f at in let d = same h in omega (arith, a, b, c, d)

moved_kept : (o : Option Outcome) (ts : List Task) (h : TaskKey → ℕ) → total h (keys (drop (length ts) (kept o ts))) + total h (keys ts) ≡ total h (keys (drop (length (kept o ts)) ts)) + total h (keys (kept o ts))
moved_kept None ts h = refl
moved_kept (Some x) ts h = let a = ap (λ (us : List Task). total h (keys us)) (drop_nil {A = Task} (length ts)) in omega (arith, a)

pub moved_appended : (xs : List Entry) (i : ℕ) (e f : Entry) (o : Option Outcome) → get_elem? xs i ≡ some e → f.waiting ≡ kept o e.waiting → Moved xs (set xs i f)
moved_appended xs i e f o at is = moved_set xs i e f at (λ h. subst (λ (ws : List Task). total h (keys (drop (length e.waiting) ws)) + total h (keys e.waiting) ≡ total h (keys (drop (length ws) e.waiting)) + total h (keys ws)) (sym is) (moved_kept o e.waiting h))

pub moved_parked : (xs : List Entry) (i : ℕ) (e f : Entry) (t : Task) → get_elem? xs i ≡ some e → f.waiting ≡ e.waiting ++ t ∷ [] → Moved xs (set xs i f)
moved_parked xs i e f t at is = moved_set xs i e f at (λ h. subst (λ (ws : List Task). total h (keys (drop (length e.waiting) ws)) + total h (keys e.waiting) ≡ total h (keys (drop (length ws) e.waiting)) + total h (keys ws)) (sym is)
    (let a = ap (λ (us : List Task). total h (keys us)) (drop_front e.waiting (t ∷ [])) in let b = ap (λ (us : List Task). total h (keys us)) (drop_longer e.waiting (t ∷ [])) in let c = total_keys h e.waiting (t ∷ []) in omega (arith, a, b, c)))

pub moved_same : (xs : List Entry) → Moved xs xs
moved_same xs h = refl

pub moved_snoc : (xs : List Entry) (e : Entry) → e.waiting ≡ [] → Moved xs (xs ++ e ∷ [])
moved_snoc xs e bare h = let a = ap (total h) (new_snoc xs (e ∷ [])) in let b = ap (total h) (new_back xs (e ∷ [])) in let c = total_append (λ (u : Entry). total h (keys u.waiting)) xs (e ∷ []) in let d = ap (λ (us : List Task). total h (keys us)) bare in omega (arith, a, b, c, d)

pub each_shard : (F : Entry → Type 0) (shards : List (List Entry)) (k : ℕ) (x : List Entry) → length shards ≡ 64 → k < 64 → ((j : ℕ) → j < 64 → Each F (shard_at shards j)) → Each F x → (j : ℕ) → j < 64 → Each F (shard_at (set shards k x) j)
each_shard F shards k x deep lt all mine j l = dite (ℕ_discrete j k) (λ e. subst (Each F) (sym (ap (shard_at (set shards k x)) e ∙ get_or-set_same shards k x [] (omega (arith, deep, lt)))) mine) (λ n. subst (Each F) (sym (get_or-set_other shards k j x [] n)) (all j l))

pub parked_gave : (key : About) (shards : List (List Entry)) (views : List View) (id k : ℕ) (v : View) (x : List Entry) → KeepsParked key shards views → get_elem? views id ≡ some v → length shards ≡ 64 → k < 64 → v.hand.copy ≡ shard_at shards k
    → Moved (shard_at shards k) x → Each (Waits key) x → KeepsParked key (set shards k x) (set views id (gave_view v x))
parked_gave key shards views id k v x r at deep lt held moved waits = let w : View = gave_view v x in record {
  balance = λ h. let a = total_set (λ (u : View). total h u.keys.parked) views id v w at in let b = total_set (λ (u : View). total h u.keys.handed) views id v w at in let c = total_append h v.keys.parked (new_keys v.hand.copy x) in let d = total_append h v.keys.handed (new_keys x v.hand.copy) in
      let e = total_set (weigh h) shards k (shard_at shards k) x (at_get shards k [] (omega (arith, deep, lt))) in let m = moved h in let p = ap (λ (y : List Entry). total h (new_keys y x)) held in let q = ap (λ (y : List Entry). total h (new_keys x y)) held in let o = r.balance h in omega (arith, a, b, c, d, e, m, p, q, o);
  waits = each_shard (Waits key) shards k x deep lt r.waits waits;
}

pub parked_split : (key : About) (shards : List (List Entry)) (views : List View) (id : ℕ) (v : View) → KeepsParked key shards views → get_elem? views id ≡ some v → KeepsParked key shards (set views id (left v) ++ right v ∷ [])
parked_split key shards views id v r at = record {
  balance = λ h. let a = total_split (λ (u : View). total h u.keys.parked) views id v (left v) (right v) at in let b = total_split (λ (u : View). total h u.keys.handed) views id v (left v) (right v) at in let o = r.balance h in omega (arith, a, b, o);
  waits = r.waits;
}

pub parked_join : (key : About) (shards : List (List Entry)) (views : List View) (id other : ℕ) (v w : View) → KeepsParked key shards views → get_elem? views id ≡ some v → get_elem? (set views id (both v w)) other ≡ some w
    → KeepsParked key shards (set (set views id (both v w)) other spent_view)
parked_join key shards views id other v w r at there = record {
  balance = λ h. let c = total_append h v.keys.parked w.keys.parked in let d = total_append h v.keys.handed w.keys.handed in
      let a = total_join (λ (u : View). total h u.keys.parked) views id other v w (both v w) spent_view at there (omega (arith, c)) in let b = total_join (λ (u : View). total h u.keys.handed) views id other v w (both v w) spent_view at there (omega (arith, d)) in let o = r.balance h in omega (arith, a, b, o);
  waits = r.waits;
}

pub waits_kept : (key : About) (e f : Entry) → Waits key e → f.log.path ≡ e.log.path → f.waiting ≡ kept f.log.outcome e.waiting → Waits key f
waits_kept key e f old path is = λ n t at. kept_one f.log.outcome e.waiting (λ m u h. subst (λ (p : List ℕ). CanWait (the_job key) p u) (sym path) (old m u h).0) n t (subst (λ (ws : List Task). get_elem? ws n ≡ some t) is at) where
  kept_one : (o : Option Outcome) (ts : List Task) → Each (λ (u : Task). CanWait (the_job key) f.log.path u) ts → Each (λ (u : Task). CanWait (the_job key) f.log.path u × (o ≡ None)) (kept o ts)
  kept_one None ts all n t at = (all n t at, refl)
  kept_one (Some x) ts all n t at = absurd (some-ne-none t (sym at))
