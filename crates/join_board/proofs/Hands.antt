-- The words of the shards, the shards at home and those in hand.
use Rattle.std.proofs.Common.{◌≡◌, ◌≢◌, ℕ, ◌+◌, ◌<◌, List, [], ◌∷◌, ◌++◌, length, get_or, set, sym, refl, ap, ◌∙◌, subst, arith, Option, Some, cond, length-set, get_or-set_other, get_or-set_same, eq-eqb, ne_eqb}
use mathlib.Core.Logic.{dite}
use mathlib.Core.Option.{Option as Maybe, some, none}
use native.Mathlib.Decide.{ℕ_discrete}
use lib.ListN.{get_elem?}
use lib.Seq.{set-get_or}
use Rattle.atomic_table.proofs.Lists.{set_here, set_else}
use Rattle.join_board.specs.Entries.{Entry}
use Rattle.join_board.specs.declared.view.View.{View}
use Rattle.task_state.specs.Sums.{total}
use Rattle.join_board.specs.Logs.{shard_at}
use Rattle.join_board.specs.Inside.Views.{took_view, missed_view, gave_view, left, right, both, spent_view}
use Rattle.join_board.specs.Rule.{word_of, has, HandTrue, KeepsHands}
use Rattle.task_state.proofs.Sums.{total_set, total_same, total_two, total_split, total_join, each_set, each_split, each_join}
use Rattle.join_board.proofs.Frames.{each_one}

abbrev pub Homes : Type 0
Homes = List (Maybe (Option (List Entry)))

pub has_not : (v : View) (k : ℕ) → v.hand.hand ≢ k + 1 → has k v ≡ 0
has_not v k n = ap (λ b. cond b 1 0) (ne_eqb v.hand.hand (k + 1) n)

pub has_none : (v : View) (k : ℕ) → v.hand.hand ≡ 0 → has k v ≡ 0
has_none v k e = has_not v k (λ h. omega arith)

pub has_this : (v : View) (k : ℕ) → v.hand.hand ≡ k + 1 → has k v ≡ 1
has_this v k e = ap (λ b. cond b 1 0) (eq-eqb v.hand.hand (k + 1) e)

has_other : (v : View) (j k : ℕ) → v.hand.hand ≡ k + 1 → j ≢ k → has j v ≡ 0
has_other v j k e n = has_not v j (λ h. n (omega arith))

pub hands_took : (shards : List (List Entry)) (words : List ℕ) (homes : Homes) (views : List View) (id k : ℕ) (v : View) → KeepsHands shards words homes views → k < 64 → v.hand.hand ≡ 0 → 0 < v.seats → get_elem? views id ≡ some v
    → get_or words (word_of k) 0 ≡ 0 → KeepsHands shards (set words (word_of k) 1) (set homes k none) (set views id (took_view v k (shard_at shards k)))
hands_took shards words homes views id k v r lt idle share at free = let w : View = took_view v k (shard_at shards k) in
    let inside : word_of k < length words = (let l = r.wide in omega arith) in let g = get_or-set_same words (word_of k) 1 0 inside in
    let other : (j : ℕ) → j ≢ k → get_or (set words (word_of k) 1) (word_of j) 0 ≡ get_or words (word_of j) 0 = λ j n. get_or-set_other words (word_of k) (word_of j) 1 0 (λ e. n (omega arith)) in record {
      wide = length-set words (word_of k) 1 ∙ r.wide;
      low = λ j l. dite (ℕ_discrete j k) (λ e. subst (λ (z : ℕ). get_or (set words (word_of k) 1) (word_of z) 0 < 2) (sym e) (omega (arith, g))) (λ n. subst (λ (z : ℕ). z < 2) (sym (other j n)) (r.low j l));
      hands = λ j l. dite (ℕ_discrete j k)
          (λ e. subst (λ (z : ℕ). total (has z) (set views id w) ≡ get_or (set words (word_of k) 1) (word_of z) 0) (sym e)
          (let h = total_set (has k) views id v w at in let o = has_none v k idle in let n : has k w ≡ 1 = has_this w k refl in let old = r.hands k lt in omega (arith, g, h, o, n, old, free)))
          (λ n. let h = total_set (has j) views id v w at in let o = has_none v j idle in let old = r.hands j l in let m : has j w ≡ 0 = has_other w j k refl n in let s = other j n in omega (arith, h, o, old, m, s));
      home = λ j l zero_now. dite (ℕ_discrete j k)
          (λ e. let z : get_or (set words (word_of k) 1) (word_of k) 0 ≡ 0 = subst (λ (y : ℕ). get_or (set words (word_of k) 1) (word_of y) 0 ≡ 0) e zero_now in absurd (omega arith))
          (λ n. set_else homes k j none n ∙ r.home j l (sym (other j n) ∙ zero_now));
      each = each_one (HandTrue shards) views id v w at (λ _ j e. let same : j ≡ k = omega arith in (subst (λ (z : ℕ). z < 64) (sym same) lt, ap (shard_at shards) (sym same), share)) r.each;
    }

pub hands_missed : (shards : List (List Entry)) (words : List ℕ) (homes : Homes) (views : List View) (id k : ℕ) (v : View) → KeepsHands shards words homes views → k < 64 → get_elem? views id ≡ some v
    → get_or words (word_of k) 0 ≢ 0 → KeepsHands shards (set words (word_of k) 1) homes (set views id (missed_view v k))
hands_missed shards words homes views id k v r lt at held = let w : View = missed_view v k in let one : get_or words (word_of k) 0 ≡ 1 = (let l = r.low k lt in omega arith) in
    subst (λ (ws : List ℕ). KeepsHands shards ws homes (set views id w)) (sym (ap (set words (word_of k)) (sym one) ∙ set-get_or words (word_of k) 0)) (record {
      wide = r.wide;
      low = r.low;
      hands = λ j l. total_same (has j) views id v w at refl ∙ r.hands j l;
      home = r.home;
      each = each_one (HandTrue shards) views id v w at (λ h. h) r.each;
    })

pub hands_gave : (shards : List (List Entry)) (words : List ℕ) (homes : Homes) (views : List View) (id k : ℕ) (v : View) (x : List Entry) → KeepsHands shards words homes views → k < 64 → length shards ≡ 64 → length homes ≡ 64
    → v.hand.hand ≡ k + 1 → get_elem? views id ≡ some v → KeepsHands (set shards k x) (set words (word_of k) 0) (set homes k (some (Some x))) (set views id (gave_view v x))
hands_gave shards words homes views id k v x r lt deep long hand at = let w : View = gave_view v x in let shards' = set shards k x in
    let inside : word_of k < length words = (let l = r.wide in omega arith) in let g = get_or-set_same words (word_of k) 0 0 inside in let here : shard_at shards' k ≡ x = get_or-set_same shards k x [] (omega arith) in
    let other : (j : ℕ) → j ≢ k → get_or (set words (word_of k) 0) (word_of j) 0 ≡ get_or words (word_of j) 0 = λ j n. get_or-set_other words (word_of k) (word_of j) 0 0 (λ e. n (omega arith)) in record {
      wide = length-set words (word_of k) 0 ∙ r.wide;
      low = λ j l. dite (ℕ_discrete j k) (λ e. subst (λ (z : ℕ). get_or (set words (word_of k) 0) (word_of z) 0 < 2) (sym e) (omega (arith, g))) (λ n. subst (λ (z : ℕ). z < 2) (sym (other j n)) (r.low j l));
      hands = λ j l. dite (ℕ_discrete j k)
          (λ e. subst (λ (z : ℕ). total (has z) (set views id w) ≡ get_or (set words (word_of k) 0) (word_of z) 0) (sym e)
          (let h = total_set (has k) views id v w at in let o = has_this v k hand in let n : has k w ≡ 0 = has_none w k refl in let old = r.hands k lt in let lo = r.low k lt in omega (arith, g, h, o, n, old, lo)))
          (λ n. let h = total_set (has j) views id v w at in let o = has_other v j k hand n in let m : has j w ≡ 0 = has_none w j refl in let old = r.hands j l in let s = other j n in omega (arith, h, o, m, old, s));
      home = λ j l zero_now. dite (ℕ_discrete j k)
          (λ e. subst (λ (z : ℕ). get_elem? (set homes k (some (Some x))) z ≡ some (some (Some (shard_at shards' z)))) (sym e) (set_here homes k (some (Some x)) (omega arith) ∙ ap (λ (y : List Entry). some (some (Some y))) (sym here)))
          (λ n. set_else homes k j (some (Some x)) n ∙ (r.home j l (sym (other j n) ∙ zero_now) ∙ ap (λ (y : List Entry). some (some (Some y))) (sym (get_or-set_other shards k j x [] n))));
      each = each_set (λ _ u. HandTrue shards' u) views id w (λ j e. absurd (omega arith))
          (λ j u apart e i h. let q = r.each j u e i h in (
            q.0,
            q.1 ∙ sym (get_or-set_other shards k i x [] (λ same. let two = total_two (has k) views id j v u (λ o. apart (sym o)) at e in
                let a = has_this v k hand in let b = has_this u k (h ∙ ap (λ (z : ℕ). z + 1) same) in let l = r.hands k lt in let lo = r.low k lt in omega arith)),
            q.2,
          ));
    }

pub hands_split : (shards : List (List Entry)) (words : List ℕ) (homes : Homes) (views : List View) (id : ℕ) (v : View) → KeepsHands shards words homes views → get_elem? views id ≡ some v → v.hand.hand ≡ 0
    → KeepsHands shards words homes (set views id (left v) ++ right v ∷ [])
hands_split shards words homes views id v r at idle = record {
  wide = r.wide;
  low = r.low;
  hands = λ k l. let a = total_split (has k) views id v (left v) (right v) at in let b : has k (left v) ≡ 0 = has_none (left v) k idle in let c : has k (right v) ≡ 0 = has_none (right v) k refl in let d = has_none v k idle in let o = r.hands k l in omega (arith, a, b, c, d, o);
  home = r.home;
  each = each_split (HandTrue shards) views id (left v) (right v) (λ k e. absurd (omega (arith, idle, e))) (λ k e. absurd (omega (arith, e))) r.each;
}

pub hands_join : (shards : List (List Entry)) (words : List ℕ) (homes : Homes) (views : List View) (id other : ℕ) (v w : View) → KeepsHands shards words homes views → get_elem? views id ≡ some v → ¬ (other ≡ id)
    → get_elem? (set views id (both v w)) other ≡ some w → v.hand.hand ≡ 0 → w.hand.hand ≡ 0 → KeepsHands shards words homes (set (set views id (both v w)) other spent_view)
hands_join shards words homes views id other v w r at apart there idle rests = record {
  wide = r.wide;
  low = r.low;
  hands = λ k l. total_join (has k) views id other v w (both v w) spent_view at there (let a : has k (both v w) ≡ 0 = has_none (both v w) k idle in let b : has k spent_view ≡ 0 = has_none spent_view k refl in let c = has_none v k idle in let d = has_none w k rests in omega (arith, a, b, c, d)) ∙ r.hands k l;
  home = r.home;
  each = each_join (HandTrue shards) views id other (both v w) spent_view (λ k e. absurd (omega (arith, idle, e))) (λ k e. absurd (omega (arith, e))) r.each;
}
