-- Logs in shards, and what a seat has seen of them.
use Rattle.std.proofs.Common.{◌≡◌, ◌≢◌, ℕ, zero, suc, ◌≤◌, List, [], ◌∷◌, ◌++◌, length, set, sym, refl, ap, ◌∙◌, subst, ⊎_elim, arith, true, false, true≢false, cond}
use mathlib.Core.Option.{some, some-injective, some-ne-none}
use lib.ListN.{get_elem?}
use Rattle.priml_syntax.specs.Events.{AllJoins}
use Rattle.priml_syntax.specs.Paths.{same_path}
use Rattle.priml_syntax.proofs.Orders.{same_path_not}
use Rattle.core_steps.specs.Config.{Thread}
use Rattle.core_steps.specs.Determined.{events_of}
use Rattle.join_board.specs.Threads.{ended}
use Rattle.priml_syntax.specs.declared.event.Event.{Event}
use Rattle.join_board.specs.Entries.{Entry}
use Rattle.join_board.specs.declared.view.Sight.{Sight}
use Rattle.join_board.specs.declared.view.About.{About}
use Rattle.join_board.specs.declared.view.View.{View}
use Rattle.join_board.specs.Logs.{Each, HasEntry, log_in, log_of, shard_at, shard_of, sight, sights, Shows}
use Rattle.join_board.specs.Views.{HasSeenEnd}
use Rattle.join_board.specs.Inside.Views.{gave_view, left, right, both, spent_view}
use Rattle.join_board.specs.Rule.{Placed, SeenTrue, KeepsSeen}
use Rattle.join_board.proofs.Laws.{all_joins}
use Rattle.join_board.proofs.Paths.{same_path_eq, either_path}
use Rattle.task_state.proofs.Sums.{at_append, each_set, each_split, each_join}

pub set_at : (x : List Entry) (i : ℕ) (e e' : Entry) → get_elem? x i ≡ some e → get_elem? (set x i e') i ≡ some e'
set_at [] i e e' h = absurd (some-ne-none e (sym h))
set_at (y ∷ ys) zero e e' h = refl
set_at (y ∷ ys) (suc i) e e' h = set_at ys i e e' h

pub log_at : (x : List Entry) (i : ℕ) (e : Entry) → get_elem? x i ≡ some e → ((j : ℕ) (f : Entry) → get_elem? x j ≡ some f → f.log.path ≡ e.log.path → j ≡ i) → log_in x e.log.path ≡ e.log.events
log_at [] i e h d = absurd (some-ne-none e (sym h))
log_at (y ∷ ys) zero e h d = let is = some-injective y e h in ap (λ b. cond b y.log.events (log_in ys e.log.path)) (same_path_eq y.log.path e.log.path (ap (λ (u : Entry). u.log.path) is)) ∙ ap (λ (u : Entry). u.log.events) is
log_at (y ∷ ys) (suc i) e h d = ap (λ b. cond b y.log.events (log_in ys e.log.path)) (same_path_not y.log.path e.log.path (λ p. let bad : 0 ≡ suc i = d 0 y refl p in omega arith))
    ∙ log_at ys i e h (λ j f g p. let q : suc j ≡ suc i = d (suc j) f g p in omega arith)

pub log_else : (x : List Entry) (i : ℕ) (e e' : Entry) (q : List ℕ) → get_elem? x i ≡ some e → e'.log.path ≡ e.log.path → q ≢ e.log.path → log_in (set x i e') q ≡ log_in x q
log_else [] i e e' q h p n = refl
log_else (y ∷ ys) zero e e' q h p n = let is = some-injective y e h in
    ap (λ b. cond b e'.log.events (log_in ys q)) (same_path_not e'.log.path q (λ a. n (sym a ∙ p))) ∙ sym (ap (λ b. cond b y.log.events (log_in ys q)) (same_path_not y.log.path q (λ a. n (sym a ∙ ap (λ (u : Entry). u.log.path) is))))
log_else (y ∷ ys) (suc i) e e' q h p n = ap (cond (same_path y.log.path q) y.log.events) (log_else ys i e e' q h p n)

-- an entry without steps at the end changes no log
pub log_snoc : (x : List Entry) (e : Entry) (q : List ℕ) → e.log.events ≡ [] → log_in (x ++ e ∷ []) q ≡ log_in x q
log_snoc [] e q bare = either_path e.log.path q (λ a. ap (λ b. cond b e.log.events []) (same_path_eq e.log.path q a) ∙ bare) (λ n. ap (λ b. cond b e.log.events []) (same_path_not e.log.path q n))
log_snoc (y ∷ ys) e q bare = ap (cond (same_path y.log.path q) y.log.events) (log_snoc ys e q bare)

pub sight_at : (x : List Entry) (i : ℕ) (t : Sight) → get_elem? (sights x) i ≡ some t → (e : Entry) × (get_elem? x i ≡ some e) × (sight e ≡ t)
sight_at [] i t h = absurd (some-ne-none t (sym h))
sight_at (y ∷ ys) zero t h = (y, refl, some-injective (sight y) t h)
sight_at (y ∷ ys) (suc i) t h = sight_at ys i t h

-- an entry of a shard shows what it has
pub shows_mine : (shards : List (List Entry)) (c : List Thread) (k : ℕ) → Placed c k (shard_at shards k) → Each (Shows shards) (sights (shard_at shards k))
shows_mine shards c k placed i t e = let x = shard_at shards k in let h = sight_at x i t e in let en = h.0 in let own = placed i en h.1 in
    let log : log_of shards t.path ≡ en.log.events = ap (λ (q : List ℕ). log_of shards q) (ap (λ (u : Sight). u.path) (sym h.2)) ∙ (ap (λ (j : ℕ). log_in (shard_at shards j) en.log.path) own.0 ∙ log_at x i en h.1 own.2) in (
      subst (λ (l : List Event). t.length ≤ length l) (sym log) (let n : length en.log.events ≡ t.length = ap (λ (u : Sight). u.length) h.2 in omega arith),
      (λ done. ap ended log ∙ (ap (λ (u : Sight). u.ended) h.2 ∙ done)),
      (let path : en.log.path ≡ t.path = ap (λ (u : Sight). u.path) h.2 in (i, (en, subst (λ (j : ℕ). get_elem? (shard_at shards j) i ≡ some en) (sym own.0 ∙ ap (λ (z : List ℕ). shard_of z) path) h.1, path))),
    )

pub both_seen : (shards : List (List Entry)) (xs ys : List Sight) → Each (Shows shards) xs → Each (Shows shards) ys → Each (Shows shards) (xs ++ ys)
both_seen shards xs ys a b i t e = ⊎_elim (λ (h : get_elem? xs i ≡ some t). a i t h) (λ (h : (j : ℕ) × (get_elem? ys j ≡ some t)). b h.0 t h.1) (at_append xs ys i t e)

abbrev pub ShowsMore : List (List Entry) → List (List Entry) → Type 0
ShowsMore a b = (t : Sight) → Shows a t → Shows b t

-- an entry stays an entry
pub listed_more : (a b : List (List Entry)) (p : List ℕ) → ShowsMore a b → HasEntry a p → HasEntry b p
listed_more a b p more h = let t : Sight = record { path = p; length = 0; ended = false } in (more t (omega arith, (λ e. absurd (true≢false (sym e))), h)).2

pub seen_gave : (key : About) (shards : List (List Entry)) (c : List Thread) (views : List View) (id k : ℕ) (v : View) (x : List Entry) → KeepsSeen key shards views → get_elem? views id ≡ some v → ShowsMore shards (set shards k x) → shard_at (set shards k x) k ≡ x
    → Placed c k (shard_at (set shards k x) k) → KeepsSeen key (set shards k x) (set views id (gave_view v x))
seen_gave key shards c views id k v x r at more here placed = record {
  each = each_set (λ _ u. SeenTrue (set shards k x) u) views id (gave_view v x)
      (both_seen (set shards k x) v.seen (sights x) (λ i t e. more t (r.each id v at i t e)) (subst (λ (y : List Entry). Each (Shows (set shards k x)) (sights y)) here (shows_mine (set shards k x) c k placed)))
      (λ j u _ e i t g. more t (r.each j u e i t g));
  rooted = λ j l. listed_more shards (set shards k x) (j ∷ []) more (r.rooted j l);
}

pub seen_split : (key : About) (shards : List (List Entry)) (views : List View) (id : ℕ) (v : View) → KeepsSeen key shards views → get_elem? views id ≡ some v → KeepsSeen key shards (set views id (left v) ++ right v ∷ [])
seen_split key shards views id v r at = record { each = each_split (SeenTrue shards) views id (left v) (right v) (r.each id v at) (λ i t e. absurd (some-ne-none t (sym e))) r.each; rooted = r.rooted }

pub seen_join : (key : About) (shards : List (List Entry)) (views : List View) (id other : ℕ) (v w : View) → KeepsSeen key shards views → get_elem? views id ≡ some v → get_elem? views other ≡ some w
    → KeepsSeen key shards (set (set views id (both v w)) other spent_view)
seen_join key shards views id other v w r at there = record {
  each = each_join (SeenTrue shards) views id other (both v w) spent_view (both_seen shards v.seen w.seen (r.each id v at) (r.each other w there)) (λ i t e. absurd (some-ne-none t (sym e))) r.each;
  rooted = r.rooted;
}

-- an end that the seat has seen is an end
pub joined : (c : List Thread) (shards : List (List Entry)) (v : View) → ((p : List ℕ) → events_of c p ≡ log_of shards p) → SeenTrue shards v → (es : List Event) → AllJoins (HasSeenEnd v) es → AllJoins (λ b. ended (events_of c b) ≡ true) es
joined c shards v reads seen es all = all_joins (HasSeenEnd v) (λ b. ended (events_of c b) ≡ true)
    (λ b h. ap ended (reads b) ∙ (ap (λ (q : List ℕ). ended (log_of shards q)) (sym h.3) ∙ (seen h.0 h.1 h.2).1 h.4)) es all
