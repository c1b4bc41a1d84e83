-- How ends with stealing deques get the handles of each other's.
use Rattle.std.proofs.Common.{◌≡◌, ◌≢◌, ℕ, ◌+◌, ◌<◌, ◌≤◌, List, [], ◌∷◌, ◌++◌, length, map, set, get_or, Some, ◌⊎◌, inl, inr, ⊎_elim, sym, refl, ap, ◌∙◌, subst, length-set, arith}
use lib.ListN.{length-map}
use Rattle.std.specs.Prelude.{replicate, slice_get}
use Rattle.std.specs.List.{All}
use Rattle.std.proofs.lemmas.Bool.{cases_lt}
use Rattle.std.proofs.lemmas.Option.{slice_get_within, slice_get-get_or}
use Rattle.type_rules.specs.Jobs.{WithInputs}
use Rattle.priority_deques.specs.declared.ends.StealEnd.{StealEnd}
use Rattle.priority_deques.specs.declared.handles.OwnDeque.{OwnDeque}
use Rattle.priority_deques.specs.declared.handles.TheirDeque.{TheirDeque}
use Rattle.priority_deques.specs.declared.parts.LaneDeques.{LaneDeques}
use Rattle.priority_deques.specs.Books.{DequeBook}
use Rattle.priority_deques.specs.Handles.{own_book, their_book}
use Rattle.priority_deques.specs.Parts.{lane_books}
use Rattle.priority_deques.specs.EndBooks.{steal_books, steal_job}
use Rattle.priority_deques.specs.Ends.{AreOfLane, IsOpened, fresh_book, lane_count}
use Rattle.priority_deques.specs.Inside.Opening.{AreFresh, EndJoined, Joined, Ready}
use Rattle.priority_deques.proofs.Lists.{each_push, each_set, some_at}
use Rattle.priority_deques.proofs.Changes.{at_mapped}

module _ (job : WithInputs) (all : ℕ) where
  -- an end that knows the same of its deques
  same_end : (i j e : ℕ) (x y : StealEnd) → steal_job y ≡ steal_job x → steal_books y ≡ steal_books x → EndJoined job all i j e x → EndJoined job all i j e y
  same_end i j e x y a b h = record { same = a ∙ h.same; long = ap length b ∙ h.long; each = λ k ds q. h.each k ds (subst (λ (l : List (List DequeBook)). slice_get l k ≡ Some ds) b q) }

  pub ready_same : (i j e : ℕ) (ends : List StealEnd) (x y : StealEnd) → Ready job all i j ends → slice_get ends e ≡ Some x → steal_job y ≡ steal_job x → steal_books y ≡ steal_books x → Ready job all i j (set ends e y)
  ready_same i j e ends x y h at a b = each_set (EndJoined job all i j) ends e y (same_end i j e x y a b (h e x at)) (λ k z _ q. h k z q)

  -- one lane more of the end
  lane_on : (i j k : ℕ) (ds : List DequeBook) → k ≢ j → Joined job all i j i k ds → Joined job all i (j + 1) i k ds
  lane_on i j k ds n h = record { fresh = h.fresh; full = λ c. h.full (inr (refl, ⊎_elim (λ l. absurd (omega (arith, l))) (λ (r : (i ≡ i) × (k < j + 1)). let l = r.1 in omega (arith, l, n)) c)) }

  end_on : (i j e : ℕ) (x : StealEnd) → e ≢ i → EndJoined job all i j e x → EndJoined job all i (j + 1) e x
  end_on i j e x n h = record { same = h.same; long = h.long; each = λ k ds q. let o = h.each k ds q in record { fresh = o.fresh; full = λ c. o.full (inl (⊎_elim (λ l. l) (λ (r : (e ≡ i) × (k < j + 1)). absurd (n r.0)) c)) } }

  pub ready_join : (i j : ℕ) (ends : List StealEnd) (x y : StealEnd) (ds : List DequeBook) → Ready job all i j ends → slice_get ends i ≡ Some x → steal_job y ≡ steal_job x → steal_books y ≡ set (steal_books x) j ds → AreFresh job j ds → length ds ≡ all → Ready job all i (j + 1) (set ends i y)
  ready_join i j ends x y ds h at a b fresh long = each_set (EndJoined job all i (j + 1)) ends i y mine (λ e z n q. end_on i j e z n (h e z q))
    where
      old : EndJoined job all i j i x
      old = h i x at

      mine : EndJoined job all i (j + 1) i y
      mine = record {
        same = a ∙ old.same;
        long = ap length b ∙ (length-set (steal_books x) j ds ∙ old.long);
        each = λ k es q. each_set (λ m fs. Joined job all i (j + 1) i m fs) (steal_books x) j ds (record { fresh = fresh; full = λ _. long }) (λ m fs n r. lane_on i j m fs n (old.each m fs r)) k es (subst (λ (l : List (List DequeBook)). slice_get l k ≡ Some es) b q);
      }

  reached : (i e k n : ℕ) → k < n → (e < i + 1) ⊎ ((e ≡ i + 1) × (k < 0)) → (e < i) ⊎ ((e ≡ i) × (k < n))
  reached i e k n l (inr r) = absurd (let z = r.1 in omega arith)
  reached i e k n l (inl m) = ⊎_elim (λ a. inl a) (λ (b : i ≤ e). inr (omega arith, l)) (cases_lt e i)

  -- the end gets the handles of the other deques of a lane
  pub ready_joined : (i j : ℕ) (ends : List StealEnd) (x y : StealEnd) (others : List TheirDeque) → Ready job all i j ends → slice_get ends i ≡ Some x → j < length x.lanes.items → steal_job y ≡ steal_job x →
      ((d : LaneDeques OwnDeque TheirDeque) → slice_get x.lanes.items j ≡ Some d → steal_books y ≡ set (steal_books x) j (own_book d.own ∷ map their_book others)) →
      AreFresh job j (map their_book others) → length others + 1 ≡ all → Ready job all i (j + 1) (set ends i y)
  ready_joined i j ends x y others h at l a b fresh long = let d = some_at x.lanes.items j l in let f = lane_books own_book their_book in
      ready_join i j ends x y (own_book d.0.own ∷ map their_book others) h at a (b d.0 d.1)
      (((h i x at).each j (f d.0) (at_mapped f x.lanes.items j d.0 d.1)).fresh.0, fresh) (let m = length-map others their_book in omega arith)

  -- how many lanes an end has
  pub ready_long : (i j e : ℕ) (ends : List StealEnd) (x : StealEnd) → Ready job all i j ends → slice_get ends e ≡ Some x → length x.lanes.items ≡ lane_count job
  ready_long i j e ends x h at = sym (length-map x.lanes.items (lane_books own_book their_book)) ∙ (h e x at).long

  pub ready_job : (i j e : ℕ) (ends : List StealEnd) (x : StealEnd) → Ready job all i j ends → slice_get ends e ≡ Some x → steal_job x ≡ job
  ready_job i j e ends x h at = (h e x at).same

  -- the next end
  pub ready_next : (i : ℕ) (ends : List StealEnd) → Ready job all i (lane_count job) ends → Ready job all (i + 1) 0 ends
  ready_next i ends h e x at = let o = h e x at in
      record { same = o.same; long = o.long; each = λ k ds q. let p = o.each k ds q in record { fresh = p.fresh; full = λ c. p.full (reached i e k (lane_count job) (let l = slice_get_within (steal_books x) k ds q in let g = o.long in omega arith) c) } }

  -- an end alone
  one_fresh : (k : ℕ) (ds : List DequeBook) → ds ≡ replicate 1 (fresh_book job k) → AreFresh job k ds
  one_fresh k ds e = subst (AreFresh job k) (sym e) (refl, tt)

  alone : (e : ℕ) (x : StealEnd) → steal_job x ≡ job → IsOpened job 1 (steal_books x) → EndJoined job all 0 0 e x
  alone e x a o = record { same = a; long = o.long; each = λ k ds q. record { fresh = one_fresh k ds (o.each k ds q); full = λ c. absurd (⊎_elim (λ l. omega (arith, l)) (λ (r : (e ≡ 0) × (k < 0)). let l = r.1 in omega (arith, l)) c) } }

  pub ready_push : (ends : List StealEnd) (x : StealEnd) → Ready job all 0 0 ends → steal_job x ≡ job → IsOpened job 1 (steal_books x) → Ready job all 0 0 (ends ++ x ∷ [])
  ready_push ends x h a o = each_push (EndJoined job all 0 0) ends x h (alone (length ends) x a o)

  fresh_alike : (k : ℕ) (ds : List DequeBook) → AreFresh job k ds → ds ≡ replicate (length ds) (fresh_book job k)
  fresh_alike k [] h = refl
  fresh_alike k (d ∷ ds) h = ap (λ (x : DequeBook). x ∷ ds) h.0 ∙ ap (λ (l : List DequeBook). fresh_book job k ∷ l) (fresh_alike k ds h.1)

  -- all ends
  pub ready_end : (ends : List StealEnd) → length ends ≡ all → Ready job all all 0 ends → All (λ e. (steal_job e ≡ job) × IsOpened job all (steal_books e)) ends
  ready_end ends long h k d l = let x = get_or ends k d in let o = h k x (slice_get-get_or ends k d l) in
      (o.same, record { long = o.long; each = λ m ds q. let p = o.each m ds q in subst (λ n. ds ≡ replicate n (fresh_book job m)) (p.full (inl (omega (arith, l, long)))) (fresh_alike m ds p.fresh) })

pub fresh_lane : (job : WithInputs) (k : ℕ) (ds : List DequeBook) → AreFresh job k ds → AreOfLane job k ds
fresh_lane job k [] h = tt
fresh_lane job k (d ∷ ds) h = ((ap (λ (x : DequeBook). x.job) h.0, ap (λ (x : DequeBook). x.lane) h.0), fresh_lane job k ds h.1)

pub fresh_push : {B : Type 0} (f : B → DequeBook) (job : WithInputs) (k : ℕ) (xs : List B) (x : B) → AreFresh job k (map f xs) → f x ≡ fresh_book job k → AreFresh job k (map f (xs ++ x ∷ []))
fresh_push f job k [] x h e = (e, tt)
fresh_push f job k (y ∷ xs) x h e = (h.0, fresh_push f job k xs x h.1 e)
