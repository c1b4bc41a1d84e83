-- The lanes: there are some, they are one list, and each priority has one.
use Rattle.std.proofs.Common.{◌≡◌, ◌≢◌, ℕ, zero, suc, ◌<◌, ◌≤◌, List, [], ◌∷◌, ◌++◌, Some, length, get_or, take, map, string_bytes, refl, sym, ap, ◌∙◌, subst, ◌⊎◌, inl, inr, arith}
use Rattle.std.specs.Prelude.{slice_get}
use Rattle.std.specs.List.{Contains, AllPairs}
use Rattle.std.proofs.Math.Seq.{take-suc}
use Rattle.std.proofs.lemmas.Bool.{cases_lt}
use Rattle.std.proofs.lemmas.Bool.Decides.{eqb_tells, Decides-eqb}
use Rattle.std.proofs.lemmas.List.{take_all, length-append, length-map, length-take-le, get_or-take}
use Rattle.std.proofs.lemmas.List.Elements.{Contains-push_cases}
use Rattle.std.proofs.lemmas.List.Quantifiers.{all_pairs_push}
use Rattle.std.proofs.lemmas.Map.Made.{IsDistinct-from_AllPairs}
use Rattle.std.proofs.lemmas.Map.Steps.{length-le_from_distinct_below, le-length_from_below}
use Rattle.std.proofs.lemmas.Option.{slice_get-get_or, get_or_from_slice_get, slice_get_within}
use Rattle.std.specs.declared.string.String.{String}
use Rattle.std.specs.declared.alloc.Global.{Global}
use Rattle.priority_order.specs.Order.{Pair, Names, IsBelow, IsLawful, Remains, IsNext, AreLanes, HasLane}
use Rattle.priority_order.proofs.Decided.{has, contains_or_not}
use Rattle.priority_order.proofs.Lists.{at_contained, each_behind-push}
use Rattle.priority_order.proofs.Tops.{Top, top_below}

module _ (ps : List Pair) (count : ℕ) where
  remains_or_not : (gone : List ℕ) (a : ℕ) → a < count → Remains count gone a ⊎ Contains gone a
  remains_or_not gone a l = elim (contains_or_not gone a) [ inl h ↦ inr h | inr lacks ↦ inl (l, lacks) ]

  -- while a priority remains, some one is on top
  pub some_top : IsLawful ps → (gone : List ℕ) → length gone < count → Top ps (λ a. Contains gone a → ⊥) count
  some_top law gone few = elim (top_below ps law (λ a. Contains gone a → ⊥) lacks_or_not count) [
    | inl none ↦ absurd (let z = le-length_from_below gone count (λ q l. (has gone q).1 (there none q l)) in omega arith)
    | inr t ↦ t
  ]
    where
      lacks_or_not : (a : ℕ) → (Contains gone a → ⊥) ⊎ ((Contains gone a → ⊥) → ⊥)
      lacks_or_not a = elim (contains_or_not gone a) [ inl h ↦ inr (λ lacks. lacks h) | inr lacks ↦ inl lacks ]

      there : ((a : ℕ) → a < count → (Contains gone a → ⊥) → ⊥) → (q : ℕ) → q < count → Contains gone q
      there none q l = elim (contains_or_not gone q) [ inl h ↦ h | inr lacks ↦ absurd (none q l lacks) ]

  -- each lane so far has the next of those that no earlier lane has
  abbrev pub EachNext : List ℕ → Type 0
  EachNext lanes = (k a : ℕ) → slice_get lanes k ≡ Some a → IsNext ps count (take k lanes) a

  pub each_next-none : EachNext []
  each_next-none k a e = absurd (let l = slice_get_within [] k a e in omega arith)

  pub each_next-push : (lanes : List ℕ) → EachNext lanes → (a : ℕ) → IsNext ps count lanes a → EachNext (lanes ++ a ∷ [])
  each_next-push lanes each a next = each_behind-push (IsNext ps count) lanes each a next

  module _ (lanes : List ℕ) (are : AreLanes ps count lanes) where
    next_at : (k : ℕ) → k < length lanes → (d : ℕ) → IsNext ps count (take k lanes) (get_or lanes k d)
    next_at k l d = are.each k (get_or lanes k d) (slice_get-get_or lanes k d l)

    in_take : (i j d : ℕ) → i < j → j < length lanes → Contains (take j lanes) (get_or lanes i d)
    in_take i j d p q = (i, let e = length-take-le j lanes (omega arith) in omega arith, get_or-take j lanes i (get_or lanes i d) p ∙ same)
      where
        same : get_or lanes i (get_or lanes i d) ≡ get_or lanes i d
        same = get_or_from_slice_get lanes i (get_or lanes i d) (get_or lanes i d) (slice_get-get_or lanes i d (omega arith))

    all_differ : AllPairs (λ x y. x ≢ y) lanes
    all_differ i j d p q e = (next_at j q d).remains.1 (subst (Contains (take j lanes)) e (in_take i j d p q))

    -- each priority has a lane
    pub all_have : (a : ℕ) → a < count → Contains lanes a
    all_have a l = elim (contains_or_not lanes a) [ inl h ↦ h | inr lacks ↦ absurd (too_many lacks) ]
      where
        below : (q : ℕ) → Contains (lanes ++ a ∷ []) q → q < count
        below q h = elim (Contains-push_cases lanes a q h) [
          | inl k ↦ (are.each k.0 q (at_contained lanes q k)).remains.0
          | inr e ↦ subst (λ z. z < count) e l
        ]

        differ : (Contains lanes a → ⊥) → AllPairs (λ x y. x ≢ y) (lanes ++ a ∷ [])
        differ lacks = all_pairs_push (λ x y. x ≢ y) lanes a all_differ (λ k d p e. lacks (k, p, get_or_from_slice_get lanes k a a (slice_get-get_or lanes k d p ∙ ap Some e)))

        too_many : (Contains lanes a → ⊥) → ⊥
        too_many lacks =
            let few = length-le_from_distinct_below (lanes ++ a ∷ []) count (IsDistinct-from_AllPairs Decides-eqb (lanes ++ a ∷ []) (differ lacks)) (λ q e. below q ((has (lanes ++ a ∷ []) q).0 e)) in
            omega (arith, length-append lanes (a ∷ []), are.long)

    -- and one alone
    pub one_place : (a j k : ℕ) → slice_get lanes j ≡ Some a → slice_get lanes k ≡ Some a → j ≡ k
    one_place a j k e f = by_order (slice_get_within lanes j a e) (slice_get_within lanes k a f)
      where
        clash : (i m : ℕ) → slice_get lanes i ≡ Some a → slice_get lanes m ≡ Some a → i < m → m < length lanes → ⊥
        clash i m x y l n = (are.each m a y).remains.1 (subst (Contains (take m lanes)) (get_or_from_slice_get lanes i a 0 x) (in_take i m 0 l n))

        either : (j < k → k < length lanes → ⊥) → (k < j → j < length lanes → ⊥) → j < length lanes → k < length lanes → j ≢ k → ⊥
        either x y p q ne = elim (cases_lt j k) [ inl l ↦ x l q | inr l ↦ y (omega arith) p ]

        by_order : j < length lanes → k < length lanes → j ≡ k
        by_order p q = elim (eqb_tells j k) [ inl s ↦ s.1 | inr s ↦ absurd (either (clash j k e f) (clash k j f e) p q s.1) ]

    -- what is strictly below has the greater lane
    pub lower_later : (a b j k : ℕ) → slice_get lanes j ≡ Some a → slice_get lanes k ≡ Some b → IsBelow ps a b → k < j
    lower_later a b j k e f below = elim (contains_or_not (take j lanes) b) [
      | inl h ↦ earlier h
      | inr lacks ↦ absurd ((are.each j a e).top b ((are.each k b f).remains.0, lacks) below)
    ]
      where
        earlier : Contains (take j lanes) b → k < j
        earlier h =
            let n : length (take j lanes) ≡ j = length-take-le j lanes (let z = slice_get_within lanes j a e in omega arith) in
            let i : h.0 < j = let z = h.1 in omega arith in
            let at : slice_get lanes h.0 ≡ Some b = slice_get-get_or lanes h.0 b (let z = slice_get_within lanes j a e in omega arith) ∙ ap Some (sym (get_or-take j lanes h.0 b i) ∙ h.2) in
            let s : h.0 ≡ k = one_place b h.0 k at f in
            omega arith

  next_is_one : (gone : List ℕ) (a b : ℕ) → IsNext ps count gone a → IsNext ps count gone b → a ≡ b
  next_is_one gone a b x y =
      let p = x.smallest b y.remains y.top in
      let q = y.smallest a x.remains x.top in
      omega arith

  -- the lanes are one list
  fronts : (xs ys : List ℕ) → AreLanes ps count xs → AreLanes ps count ys → (k : ℕ) → k ≤ count → take k xs ≡ take k ys
  fronts xs ys x y zero l = refl
  fronts xs ys x y (suc k) l =
      let so_far = fronts xs ys x y k (omega arith) in
      let here = next_is_one (take k xs) (get_or xs k 0) (get_or ys k 0) (next_at xs x k (omega (arith, x.long)) 0) (subst (λ gone. IsNext ps count gone (get_or ys k 0)) (sym so_far) (next_at ys y k (omega (arith, y.long)) 0)) in
      take-suc xs k 0 (omega (arith, x.long)) ∙ (ap (λ zs. zs ++ get_or xs k 0 ∷ []) so_far ∙ (ap (λ z. take k ys ++ z ∷ []) here ∙ sym (take-suc ys k 0 (omega (arith, y.long)))))

  pub same_lanes : (xs ys : List ℕ) → AreLanes ps count xs → AreLanes ps count ys → xs ≡ ys
  same_lanes xs ys x y =
      sym (take_all count xs (omega (arith, x.long))) ∙ (fronts xs ys x y count (omega arith) ∙ take_all count ys (omega (arith, y.long)))

  -- what has a lane stands there in any list of the lanes
  pub stands : (lanes : List ℕ) → AreLanes ps count lanes → (a k : ℕ) → HasLane ps count a k → slice_get lanes k ≡ Some a
  stands lanes are a k h = subst (λ xs. slice_get xs k ≡ Some a) (same_lanes h.lanes lanes h.are are) h.is

  -- all that is told of a priority and its lane
  pub record IsPlaced (a k : ℕ) : Type 0 where
    pub is : HasLane ps count a k
    pub only_lane : (j : ℕ) → HasLane ps count a j → j ≡ k
    pub only_priority : (b : ℕ) → HasLane ps count b k → b ≡ a
    pub lane_within : k < count
    pub priority_within : a < count
    pub above : (b j : ℕ) → HasLane ps count b j → IsBelow ps a b → j < k

  pub placed : (lanes : List ℕ) → AreLanes ps count lanes → (a k : ℕ) → slice_get lanes k ≡ Some a → IsPlaced a k
  placed lanes are a k e = record {
    is = record { lanes = lanes; are = are; is = e };
    only_lane = λ j h. one_place lanes are a j k (stands lanes are a j h) e;
    only_priority = λ b h. let s : Some b ≡ Some a = sym (stands lanes are b k h) ∙ e in cc;
    lane_within = omega (arith, slice_get_within lanes k a e, are.long);
    priority_within = (are.each k a e).remains.0;
    above = λ b j h below. lower_later lanes are a b k j e (stands lanes are b j h) below;
  }

-- the same of the names and pairs that an order stands for
module _ (names : List (String Global)) (pairs : List Pair) (e : Names) (is : record { names = map string_bytes names; pairs = pairs } ≡ e) where
  pub as_many : length names ≡ length e.names
  as_many = sym (length-map names string_bytes) ∙ ap (λ (x : Names). length x.names) is

  pub placed_named : (lanes : List ℕ) → AreLanes pairs (length names) lanes → (a k : ℕ) → slice_get lanes k ≡ Some a → IsPlaced e.pairs (length e.names) a k
  placed_named lanes are a k at =
      subst (λ (x : Names). IsPlaced x.pairs (length x.names) a k) is (subst (λ n. IsPlaced pairs n a k) (sym (length-map names string_bytes)) (placed pairs (length names) lanes are a k at))
