-- What an end has stays ds it changes.
use Rattle.std.proofs.Common.{◌≡◌, ℕ, zero, suc, List, [], ◌∷◌, length, map, Option, None, Some, Result, Ok, Err, Vec, Global, set, length-set, sym, refl, ap, ◌∙◌, subst}
use lib.ListN.{length-map}
use lib.Seq.{map-set}
use Rattle.std.specs.Prelude.{slice_get, MatchOption, OnOk, IfErr, IfSome}
use Rattle.std.specs.List.{AllByRecursion, AllZip}
use Rattle.std.proofs.lemmas.Option.{same_Some}
use Rattle.type_rules.specs.Jobs.{WithInputs}
use Rattle.core_steps.specs.Moves.{read_job}
use Rattle.task_state.specs.Tasks.{TaskFields, read_task}
use Rattle.priority_deques.specs.declared.parts.Pick.{Pick}
use Rattle.priority_deques.specs.Books.{AsBefore, ChangedAt, DequeBook, Gave, Got, Missed, NoneTaken, Picked, Refused, TookOne}
use Rattle.priority_deques.specs.Ends.{AreOfLane, IsEndOf, lane_count}
use Rattle.priority_deques.specs.Parts.{end_books, lane_books}
use Rattle.priority_deques.specs.Tasks.{Fits}
use Rattle.priority_deques.specs.declared.parts.LaneDeques.{LaneDeques}
use Rattle.priority_deques.proofs.Changes.{at_mapped}
use Rattle.priority_deques.proofs.Lists.{EachAt, each_set}

module _ {A : Type 0} (R S : A → A → Type 0) where
  changed_length : (n : ℕ) (xs ys : List A) → ChangedAt R S n xs ys → length ys ≡ length xs
  changed_length n [] ys h = absurd h
  changed_length n (x ∷ xs) [] h = absurd h
  changed_length zero (x ∷ xs) (y ∷ ys) h = ap (λ (l : List A). suc (length l)) h.1
  changed_length (suc n) (x ∷ xs) (y ∷ ys) h = ap suc (changed_length n xs ys h.1)

  -- where both kinds of change keep P
  changed_each : (P : ℕ → A → Type 0) → ((k : ℕ) (x y : A) → R x y → P k x → P k y) → ((k : ℕ) (x y : A) → S x y → P k x → P k y) → (n : ℕ) (xs ys : List A) → ChangedAt R S n xs ys → EachAt P xs → EachAt P ys
  changed_each P r s n [] ys h all k z e = absurd h
  changed_each P r s n (x ∷ xs) [] h all k z e = absurd h
  changed_each P r s zero (x ∷ xs) (y ∷ ys) h all zero z e = s 0 x z (subst (S x) (same_Some y z e) h.0) (all 0 x refl)
  changed_each P r s zero (x ∷ xs) (y ∷ ys) h all (suc k) z e = all (suc k) z (subst (λ (l : List A). slice_get l k ≡ Some z) h.1 e)
  changed_each P r s (suc n) (x ∷ xs) (y ∷ ys) h all zero z e = r 0 x z (subst (R x) (same_Some y z e) h.0) (all 0 x refl)
  changed_each P r s (suc n) (x ∷ xs) (y ∷ ys) h all (suc k) z e = changed_each (λ j. P (suc j)) (λ j. r (suc j)) (λ j. s (suc j)) n xs ys h.1 (λ j. all (suc j)) k z e

  -- what changed at the place
  changed_there : (n : ℕ) (xs ys : List A) → ChangedAt R S n xs ys → (x : A) × (y : A) × (slice_get xs n ≡ Some x) × S x y
  changed_there n [] ys h = absurd h
  changed_there n (x ∷ xs) [] h = absurd h
  changed_there zero (x ∷ xs) (y ∷ ys) h = (x, y, refl, h.0)
  changed_there (suc n) (x ∷ xs) (y ∷ ys) h = changed_there n xs ys h.1

  changed_all : (Q : A → Type 0) → ((x y : A) → R x y → Q x → Q y) → ((x y : A) → S x y → Q x → Q y) → (n : ℕ) (xs ys : List A) → ChangedAt R S n xs ys → AllByRecursion Q xs → AllByRecursion Q ys
  changed_all Q r s n [] ys h all = absurd h
  changed_all Q r s n (x ∷ xs) [] h all = absurd h
  changed_all Q r s zero (x ∷ xs) (y ∷ ys) h all = (s x y h.0 all.0, subst (AllByRecursion Q) (sym h.1) all.1)
  changed_all Q r s (suc n) (x ∷ xs) (y ∷ ys) h all = (r x y h.0 all.0, changed_all Q r s n xs ys h.1 all.1)

module _ {A : Type 0} (R : A → A → Type 0) where
  zip_length : (xs ys : List A) → AllZip R xs ys → length ys ≡ length xs
  zip_length [] [] h = refl
  zip_length [] (y ∷ ys) h = absurd h
  zip_length (x ∷ xs) [] h = absurd h
  zip_length (x ∷ xs) (y ∷ ys) h = ap suc (zip_length xs ys h.1)

  zip_each : (P : ℕ → A → Type 0) → ((k : ℕ) (x y : A) → R x y → P k x → P k y) → (xs ys : List A) → AllZip R xs ys → EachAt P xs → EachAt P ys
  zip_each P r [] [] h all k z e = all k z e
  zip_each P r [] (y ∷ ys) h all k z e = absurd h
  zip_each P r (x ∷ xs) [] h all k z e = absurd h
  zip_each P r (x ∷ xs) (y ∷ ys) h all zero z e = r 0 x z (subst (R x) (same_Some y z e) h.0) (all 0 x refl)
  zip_each P r (x ∷ xs) (y ∷ ys) h all (suc k) z e = zip_each (λ j. P (suc j)) (λ j. r (suc j)) xs ys h.1 (λ j. all (suc j)) k z e

  zip_all : (Q : A → Type 0) → ((x y : A) → R x y → Q x → Q y) → (xs ys : List A) → AllZip R xs ys → AllByRecursion Q xs → AllByRecursion Q ys
  zip_all Q r [] [] h all = tt
  zip_all Q r [] (y ∷ ys) h all = absurd h
  zip_all Q r (x ∷ xs) [] h all = absurd h
  zip_all Q r (x ∷ xs) (y ∷ ys) h all = (r x y h.0 all.0, zip_all Q r xs ys h.1 all.1)

-- a change that keeps the job and the lane
abbrev pub Still : (DequeBook → DequeBook → Type 0) → Type 0
Still S = (a b : DequeBook) → S a b → (b.job ≡ a.job) × (b.lane ≡ a.lane)

module _ (job : WithInputs) where
  same_lane : (S : DequeBook → DequeBook → Type 0) → Still S → (k : ℕ) (a b : DequeBook) → S a b → (a.job ≡ job) × (a.lane ≡ k) → (b.job ≡ job) × (b.lane ≡ k)
  same_lane S still k a b s h = let e = still a b s in (e.0 ∙ h.0, e.1 ∙ h.1)

  missed_still : Still Missed
  missed_still a b m = (ap (λ (d : DequeBook). d.job) m.0, ap (λ (d : DequeBook). d.lane) m.0)

  gave_still : (t : TaskFields) → Still (Gave t)
  gave_still t a b m = (ap (λ (d : DequeBook). d.job) m.0, ap (λ (d : DequeBook). d.lane) m.0)

  pub got_still : (t : TaskFields) → Still (Got t)
  got_still t a b m = (ap (λ (d : DequeBook). d.job) m, ap (λ (d : DequeBook). d.lane) m)

  pub refused_still : Still Refused
  refused_still a b m = (ap (λ (d : DequeBook). d.job) m.0, ap (λ (d : DequeBook). d.lane) m.0)

  before_still : Still AsBefore
  before_still a b m = (ap (λ (d : DequeBook). d.job) m, ap (λ (d : DequeBook). d.lane) m)

  missed_lane : (k : ℕ) (ds es : List DequeBook) → AllZip Missed ds es → AreOfLane job k ds → AreOfLane job k es
  missed_lane k ds es h all = zip_all Missed _ (same_lane Missed missed_still k) ds es h all

  took_lane : (t : TaskFields) (k : ℕ) (ds es : List DequeBook) → TookOne t ds es → AreOfLane job k ds → AreOfLane job k es
  took_lane t k ds es h all = changed_all Missed (Gave t) _ (same_lane Missed missed_still k) (same_lane (Gave t) (gave_still t) k) h.0 ds es h.1 all

  pub none_keeps : (old new : List (List DequeBook)) → IsEndOf job old → NoneTaken old new → IsEndOf job new
  none_keeps old new h n = ((zip_length (AllZip Missed) old new n ∙ h.0.0, h.0.1), zip_each (AllZip Missed) (AreOfLane job) missed_lane old new n h.1)

  pub took_keeps : (t : TaskFields) (k : ℕ) (old new : List (List DequeBook)) → IsEndOf job old → ChangedAt (AllZip Missed) (TookOne t) k old new → IsEndOf job new
  took_keeps t k old new h n = ((changed_length (AllZip Missed) (TookOne t) k old new n ∙ h.0.0, h.0.1), changed_each (AllZip Missed) (TookOne t) (AreOfLane job) missed_lane (took_lane t) k old new n h.1)

  fits_there : (t : TaskFields) (k : ℕ) (a : DequeBook) → (a.job ≡ job) × (a.lane ≡ k) → Fits (read_job a.job) a.lane t → Fits (read_job job) k t
  fits_there t k a h f = subst (λ (z : WithInputs × ℕ). Fits (read_job z.0) z.1 t) (λ i. (h.0 i, h.1 i)) f

  pub fits_here : (t : TaskFields) (k : ℕ) (a : DequeBook) → (a.job ≡ job) × (a.lane ≡ k) → Fits (read_job job) k t → Fits (read_job a.job) a.lane t
  fits_here t k a h f = subst (λ (z : WithInputs × ℕ). Fits (read_job z.0) z.1 t) (λ i. (sym h.0 i, sym h.1 i)) f

  gave_fits : (t : TaskFields) (k n : ℕ) (ds es : List DequeBook) → ChangedAt Missed (Gave t) n ds es → AreOfLane job k ds → Fits (read_job job) k t
  gave_fits t k n [] es h all = absurd h
  gave_fits t k n (a ∷ ds) [] h all = absurd h
  gave_fits t k zero (a ∷ ds) (b ∷ es) h all = fits_there t k a all.0 h.0.1
  gave_fits t k (suc n) (a ∷ ds) (b ∷ es) h all = gave_fits t k n ds es h.1 all.1

  pub picked : (t : TaskFields) (k : ℕ) (old new : List (List DequeBook)) → IsEndOf job old → ChangedAt (AllZip Missed) (TookOne t) k old new → Picked job k t old new
  picked t k old new h n = let at = changed_there (AllZip Missed) (TookOne t) k old new n in record { fits = gave_fits t k at.3.0 at.0 at.1 at.3.1 (h.1 k at.0 at.2); taken = n }

  pub own_keeps : (S : DequeBook → DequeBook → Type 0) → Still S → (k : ℕ) (old new : List (List DequeBook)) → IsEndOf job old → ChangedAt AsBefore (ChangedAt AsBefore S 0) k old new → IsEndOf job new
  own_keeps S still k old new h n = (
    (changed_length AsBefore (ChangedAt AsBefore S 0) k old new n ∙ h.0.0, h.0.1),
    changed_each AsBefore (ChangedAt AsBefore S 0) (AreOfLane job)
        (λ j ds es q all. subst (AreOfLane job j) (sym q) all) (λ j ds es m all. changed_all AsBefore S _ (same_lane AsBefore before_still j) (same_lane S still j) 0 ds es m all) k old new n h.1,
  )

  -- after a call that takes
  module _ (old new : List (List DequeBook)) (h : IsEndOf job old) where
    pub took_end : (r : Option Pick) → MatchOption r (NoneTaken old new) (λ p. ChangedAt (AllZip Missed) (TookOne (read_task p.task)) p.lane old new) → IsEndOf job new
    took_end None n = none_keeps old new h n
    took_end (Some p) n = took_keeps (read_task p.task) p.lane old new h n

    pub took_pick : (r : Option Pick) → MatchOption r (NoneTaken old new) (λ p. ChangedAt (AllZip Missed) (TookOne (read_task p.task)) p.lane old new) → IfSome r (λ p. Picked job p.lane (read_task p.task) old new)
    took_pick None n = tt
    took_pick (Some p) n = picked (read_task p.task) p.lane old new h n

    -- after a call that puts
    pub put_end : {U E : Type 0} (Q : E → Type 0) (t : TaskFields) (k : ℕ) (r : Result U E) → OnOk r (ChangedAt AsBefore (ChangedAt AsBefore (Got t) 0) k old new) → IfErr r (λ e. Q e × ChangedAt AsBefore (ChangedAt AsBefore Refused 0) k old new) → IsEndOf job new
    put_end Q t k (Ok u) a b = own_keeps (Got t) (got_still t) k old new h a
    put_end Q t k (Err e) a b = own_keeps Refused refused_still k old new h b.1

  module _ {O B : Type 0} (own : O → DequeBook) (theirs : B → DequeBook) (lanes : List (LaneDeques O B)) (h : IsEndOf job (end_books own theirs lanes)) where
    -- the end's own deque of a lane is one of that lane
    pub own_lane : (k : ℕ) (d : LaneDeques O B) → slice_get lanes k ≡ Some d → ((own d.own).job ≡ job) × ((own d.own).lane ≡ k)
    own_lane k d at = (h.1 k (lane_books own theirs d) (at_mapped (lane_books own theirs) lanes k d at)).0

    -- the end gets other deques of a lane
    pub join_keeps : (k : ℕ) (d : LaneDeques O B) (others : Vec B Global) → slice_get lanes k ≡ Some d → AreOfLane job k (map theirs others.items) → IsEndOf job (end_books own theirs (set lanes k (record d { others = others })))
    join_keeps k d others at all = let f = lane_books own theirs in let e = record d { others = others } in subst (IsEndOf job) (sym (map-set f lanes k e))
        ((length-set (map f lanes) k (f e) ∙ h.0.0, h.0.1), each_set (AreOfLane job) (map f lanes) k (f e) (own_lane k d at, all) (λ j x _ q. h.1 j x q))

    -- a task that fits the lane fits the end's own deque of it
    pub fits_own : (t : TaskFields) (k : ℕ) → Fits (read_job job) k t → (d : LaneDeques O B) → slice_get lanes k ≡ Some d → Fits (read_job (own d.own).job) (own d.own).lane t
    fits_own t k f d at = fits_here t k (own d.own) (h.1 k (lane_books own theirs d) (at_mapped (lane_books own theirs) lanes k d at)).0 f

    pub lanes_long : length lanes ≡ lane_count job
    lanes_long = sym (length-map lanes (lane_books own theirs)) ∙ h.0.0
