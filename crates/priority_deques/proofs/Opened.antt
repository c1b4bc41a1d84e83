-- Ends that were just opened.
use Rattle.std.proofs.Common.{◌≡◌, ℕ, zero, suc, ◌≤◌, List, [], ◌∷◌, ◌++◌, length, map, set, Some, sym, refl, ap, ◌∙◌, subst, arith}
use Rattle.std.specs.Prelude.{replicate, slice_get}
use Rattle.std.proofs.lemmas.Option.{same_Some}
use lib.ListN.{length-map}
use lib.Seq.{map-set}
use Rattle.priority_order.specs.Order.{most_names}
use Rattle.type_rules.specs.Jobs.{WithInputs}
use Rattle.priority_deques.specs.declared.parts.LaneDeques.{LaneDeques}
use Rattle.priority_deques.specs.Books.{DequeBook}
use Rattle.priority_deques.specs.Ends.{AreOfLane, IsEndOf, IsOpened, fresh_book, lane_count}
use Rattle.priority_deques.specs.Parts.{end_books, lane_books}
use Rattle.priority_deques.proofs.Changes.{at_mapped}
use Rattle.priority_deques.proofs.Lists.{EachAt, each_mapped, each_push, set_same}

fresh_of_lane : (job : WithInputs) (k n : ℕ) → AreOfLane job k (replicate n (fresh_book job k))
fresh_of_lane job k zero = tt
fresh_of_lane job k (suc n) = ((refl, refl), fresh_of_lane job k n)

pub opened_end : (job : WithInputs) (n : ℕ) (books : List (List DequeBook)) → lane_count job ≤ most_names → IsOpened job n books → IsEndOf job books
opened_end job n books few o = ((o.long, few), λ k ds e. subst (AreOfLane job k) (sym (o.each k ds e)) (fresh_of_lane job k n))

module _ {O B : Type 0} (own : O → DequeBook) (theirs : B → DequeBook) (job : WithInputs) where
  -- the lanes have so many deques each, of which none was used
  abbrev pub NewLanes : ℕ → List (LaneDeques O B) → Type 0
  NewLanes n = EachAt (λ k d. lane_books own theirs d ≡ replicate n (fresh_book job k))

  pub opened : (n : ℕ) (lanes : List (LaneDeques O B)) → length lanes ≡ lane_count job → NewLanes n lanes → IsOpened job n (end_books own theirs lanes)
  opened n lanes long new = record { long = length-map lanes (lane_books own theirs) ∙ long; each = each_mapped (lane_books own theirs) (λ k ds. ds ≡ replicate n (fresh_book job k)) lanes new }

  -- one more lane
  pub push_lane : (lanes : List (LaneDeques O B)) (d : LaneDeques O B) (i : ℕ) → NewLanes 1 lanes → length lanes ≡ i → own d.own ≡ fresh_book job i → d.others.items ≡ [] → NewLanes 1 (lanes ++ d ∷ [])
  push_lane lanes d i new long o e = each_push (λ k x. lane_books own theirs x ≡ replicate 1 (fresh_book job k)) lanes d new
      (ap (λ (b : DequeBook). b ∷ map theirs d.others.items) (o ∙ ap (fresh_book job) (sym long)) ∙ ap (λ (l : List B). fresh_book job (length lanes) ∷ map theirs l) e)

  -- all lanes
  pub made : (n : ℕ) (table : WithInputs) (lanes : List (LaneDeques O B)) (lane count : ℕ) → table ≡ job → NewLanes n lanes → length lanes ≡ lane → count ≡ lane_count table → count ≤ most_names → lane ≤ count → count ≤ lane →
      IsOpened job n (end_books own theirs lanes) × IsEndOf table (end_books own theirs lanes)
  made n table lanes lane count same new long c few l g = let t : lane_count table ≡ lane_count job = ap lane_count same in let e : length lanes ≡ lane_count job = omega arith in let o = opened n lanes e new in
      (o, subst (λ (j : WithInputs). IsEndOf j (end_books own theirs lanes)) (sym same) (opened_end job n (end_books own theirs lanes) (subst (λ k. k ≤ most_names) (c ∙ t) few) o))

  -- the own deque of a lane of which no deque was used
  pub own_new : (n k : ℕ) (lanes : List (LaneDeques O B)) (d : LaneDeques O B) → IsOpened job (suc n) (end_books own theirs lanes) → slice_get lanes k ≡ Some d → own d.own ≡ fresh_book job k
  own_new n k lanes d o at = same_Some (own d.own) (fresh_book job k) (ap (λ (l : List DequeBook). slice_get l 0) (o.each k (lane_books own theirs d) (at_mapped (lane_books own theirs) lanes k d at)))

  -- where an own deque changes, and not what the end knows of it
  pub same_books : (lanes : List (LaneDeques O B)) (k : ℕ) (d : LaneDeques O B) (o : O) → slice_get lanes k ≡ Some d → own o ≡ own d.own → end_books own theirs (set lanes k (record d { own = o })) ≡ end_books own theirs lanes
  same_books lanes k d o at e = map-set (lane_books own theirs) lanes k (record d { own = o })
      ∙ set_same (map (lane_books own theirs) lanes) k (lane_books own theirs d) (lane_books own theirs (record d { own = o })) (at_mapped (lane_books own theirs) lanes k d at) (ap (λ (b : DequeBook). b ∷ map theirs d.others.items) e)
