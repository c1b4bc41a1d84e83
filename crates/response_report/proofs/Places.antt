-- The step of each vertex, and the response that follows.
use Rattle.std.proofs.Common.{◌≡◌, ◌≢◌, ℕ, zero, suc, ◌+◌, ◌-◌, ◌<◌, ◌≤◌, List, [], ◌∷◌, ◌++◌, length, take, drop, get_or, set, refl, sym, ap, ◌∙◌, subst, inl, inr, arith, ◌⊎◌}
use Rattle.std.specs.Prelude.{nat_eq}
use Rattle.std.specs.List.{concat, Contains, IsDistinct}
use Rattle.std.proofs.lemmas.Bool.{cases_eq, cases_lt}
use Rattle.std.proofs.lemmas.List.{take_more, take-append-drop, get_or-set_same, get_or-set_other}
use Rattle.std.proofs.lemmas.List.Elements.{Contains-append_left, Contains-append_right, Contains-append_cases}
use Rattle.cost_graph.specs.Graph.{CostGraph, Edge, parents_at, thread_total, first_vertex, last_vertex, IsGraph}
use Rattle.cost_graph.proofs.Ends.{last_below}
use Rattle.cost_graph.proofs.Members.{no_member, member_cons, member_head, distinct_left, distinct_apart}
use Rattle.prompt_checker.specs.Schedule.{vertices_before, step_at, IsValid}
use Rattle.prompt_checker.proofs.Steps.{concat_append, before_more, before_kept}
use Rattle.response_report.specs.Response.{ParentsBefore, IsReleased, IsResponse}
use Rattle.response_report.specs.Inside.Places.{ArePlaces, IsRelease}

-- what stands in the first steps stands in one of them
pub stands_in : (steps : List (List ℕ)) (i v : ℕ) → i ≤ length steps → Contains (vertices_before steps i) v → (j : ℕ) × (j < i) × Contains (step_at steps j) v
stands_in steps zero v le c = absurd (no_member v c)
stands_in steps (suc i) v le c =
    let lt : i < length steps = omega (arith, le) in
    elim (Contains-append_cases (vertices_before steps i) (step_at steps i) v (subst (λ l. Contains l v) (before_more steps i lt) c)) [
      | inl early ↦ let r = stands_in steps i v (omega (arith, le)) early in (r.0, omega (arith, r.1), r.2)
      | inr here ↦ (i, omega arith, here)
    ]

pub stands_somewhere : (steps : List (List ℕ)) (v : ℕ) → Contains (concat steps) v → (j : ℕ) × (j < length steps) × Contains (step_at steps j) v
stands_somewhere [] v c = absurd (no_member v c)
stands_somewhere (s ∷ steps) v c =
    elim (Contains-append_cases s (concat steps) v c) [
      | inl here ↦ (zero, omega arith, here)
      | inr late ↦ let r = stands_somewhere steps v late in (suc r.0, omega (arith, r.1), r.2)
    ]

pub stands_before : (steps : List (List ℕ)) (j i v : ℕ) → j < i → i ≤ length steps → Contains (step_at steps j) v → Contains (vertices_before steps i) v
stands_before steps j i v lt le c =
    let j_lt : j < length steps = omega (arith, lt, le) in
    let d : ℕ = i - (j + 1) in
    let e : suc j + d ≡ i = omega (arith, lt) in
    let le' : suc j + d ≤ length steps = omega (arith, e, le) in
    let here = subst (λ l. Contains l v) (sym (before_more steps j j_lt)) (Contains-append_right (vertices_before steps j) (step_at steps j) v c) in
    subst (λ k. Contains (vertices_before steps k) v) e (before_kept steps d (suc j) v le' here)

-- of two steps, what stands in the earlier is not in the later
pub apart : (steps : List (List ℕ)) (j i v : ℕ) → IsDistinct nat_eq (concat steps) → j < i → i < length steps → Contains (step_at steps j) v → Contains (step_at steps i) v → ⊥
apart steps j i v once lt i_lt a b =
    let before = stands_before steps j i v lt (omega (arith, i_lt)) a in
    let whole = subst (IsDistinct nat_eq) (sym (ap concat (take-append-drop (suc i) steps))) once in
    let first = distinct_left (concat (take (suc i) steps)) (concat (drop (suc i) steps)) (subst (IsDistinct nat_eq) (concat_append (take (suc i) steps) (drop (suc i) steps)) whole) in
    distinct_apart (vertices_before steps i) (step_at steps i) v (subst (IsDistinct nat_eq) (before_more steps i i_lt) first) before b

module _ (g : CostGraph) (cores : ℕ) (steps : List (List ℕ)) (t : ℕ) (places : List ℕ) (from : ℕ) (ok : IsGraph g) (lt : t < thread_total g) (valid : IsValid g cores steps) (are : ArePlaces steps places) (release : IsRelease places (parents_at g (first_vertex g t)) from) where
  parents_stand : (u : ℕ) → Edge g u (first_vertex g t) → (j : ℕ) × (j < length steps) × Contains (step_at steps j) u
  parents_stand u e = stands_somewhere steps u ((valid.all u).0 (ok.ends u (first_vertex g t) e))

  from_low : from ≤ length steps
  from_low = go from refl
    where
      go : (n : ℕ) → n ≡ from → from ≤ length steps
      go zero e = omega (arith, e)
      go (suc n) e =
          let some : 0 < from = omega (arith, e) in
          let p = release.reached some in
          let s = parents_stand p.0 p.1 in
          omega (arith, p.2, are s.0 p.0 s.1 s.2, s.1)

  pub released : IsReleased g steps (first_vertex g t) from
  released = record {
    parents = λ u e.
        let s = parents_stand u e in
        stands_before steps s.0 from u (omega (arith, are s.0 u s.1 s.2, release.upper u e)) from_low s.2;
    least = λ j before. go j before from refl;
  }
    where
      go : (j : ℕ) → ParentsBefore g steps j (first_vertex g t) → (n : ℕ) → n ≡ from → from ≤ j
      go j before zero e = omega (arith, e)
      go j before (suc n) e =
          let some : 0 < from = omega (arith, e) in
          let p = release.reached some in
          elim (cases_lt j (length steps)) [
            | inr past ↦ omega (arith, past, from_low)
            | inl j_lt ↦
                let s = stands_in steps j p.0 (omega (arith, j_lt)) (before p.0 p.1) in
                omega (arith, p.2, are s.0 p.0 (omega (arith, s.1, j_lt)) s.2, s.1)
          ]

  pub last_stands : (j : ℕ) × (j < length steps) × Contains (step_at steps j) (last_vertex g t)
  last_stands = stands_somewhere steps (last_vertex g t) ((valid.all (last_vertex g t)).0 (last_below g t ok lt))

  -- the response of the thread
  abbrev pub response_is : IsResponse g steps t (last_stands.0 - from + 1)
  response_is = record { from = from; to = last_stands.0; released = released; bounds = last_stands.1; runs = last_stands.2; is = refl }

  pub last_place : get_or places (last_vertex g t) 0 ≡ last_stands.0 + 1
  last_place = are last_stands.0 (last_vertex g t) last_stands.1 last_stands.2

-- one vertex more has its number
pub noted_on : (old now : List ℕ) (xs : List ℕ) (i n : ℕ) → i < length xs → get_or xs i 0 < length now
    → ((v : ℕ) → Contains (take i xs) v → get_or now v 0 ≡ n) → ((v : ℕ) → (Contains (take i xs) v → ⊥) → get_or now v 0 ≡ get_or old v 0)
    → ((v : ℕ) → Contains (take (i + 1) xs) v → get_or (set now (get_or xs i 0) n) v 0 ≡ n) × ((v : ℕ) → (Contains (take (i + 1) xs) v → ⊥) → get_or (set now (get_or xs i 0) n) v 0 ≡ get_or old v 0)
noted_on old now xs i n lt small here kept = (
  λ v c. elim (cases_eq v (get_or xs i 0)) [
    | inl e ↦ subst (λ x. get_or (set now (get_or xs i 0) n) x 0 ≡ n) (sym e) (get_or-set_same now (get_or xs i 0) n 0 small)
    | inr other ↦ get_or-set_other now (get_or xs i 0) v n 0 other ∙ here v (elim (Contains-append_cases (take i xs) (get_or xs i 0 ∷ []) v (subst (λ l. Contains l v) more c)) [
      | inl early ↦ early
      | inr late ↦ elim (member_cons (get_or xs i 0) [] v late) [ inl e ↦ absurd (other (sym e)) | inr z ↦ absurd (no_member v z) ]
    ])
  ],
  λ v none.
      let other : v ≢ get_or xs i 0 = λ e. none (subst (λ l. Contains l v) (sym more) (Contains-append_right (take i xs) (get_or xs i 0 ∷ []) v (subst (Contains (get_or xs i 0 ∷ [])) (sym e) (member_head (get_or xs i 0) [])))) in
      get_or-set_other now (get_or xs i 0) v n 0 other ∙ kept v (λ c. none (subst (λ l. Contains l v) (sym more) (Contains-append_left (take i xs) (get_or xs i 0 ∷ []) v c))),
)
  where
    more : take (i + 1) xs ≡ take i xs ++ get_or xs i 0 ∷ []
    more = take_more xs i 0 lt

-- one step more has its number
pub places_on : (steps : List (List ℕ)) (now next : List ℕ) (i : ℕ) → IsDistinct nat_eq (concat steps) → i < length steps
    → ((v : ℕ) → Contains (step_at steps i) v → get_or next v 0 ≡ i + 1) → ((v : ℕ) → (Contains (step_at steps i) v → ⊥) → get_or next v 0 ≡ get_or now v 0)
    → ((j v : ℕ) → j < i → Contains (step_at steps j) v → get_or now v 0 ≡ j + 1)
    → (j v : ℕ) → j < i + 1 → Contains (step_at steps j) v → get_or next v 0 ≡ j + 1
places_on steps now next i once lt here kept before j v j_lt c =
    elim (cases_eq j i) [
      | inl e ↦ here v (subst (λ k. Contains (step_at steps k) v) e c) ∙ ap (λ k. k + 1) (sym e)
      | inr other ↦
          let less : j < i = omega (arith, j_lt, other) in
          kept v (λ d. apart steps j i v once less lt c d) ∙ before j v less c
    ]

pub in_whole : (steps : List (List ℕ)) (i v : ℕ) → i < length steps → Contains (step_at steps i) v → Contains (concat steps) v
in_whole [] i v lt c = absurd (omega (arith, lt))
in_whole (s ∷ steps) zero v lt c = Contains-append_left s (concat steps) v c
in_whole (s ∷ steps) (suc i) v lt c = Contains-append_right s (concat steps) v (in_whole steps i v (omega (arith, lt)) c)

-- one vertex more
pub release_on : (places vs : List ℕ) (i best place next : ℕ) → i < length vs → place ≡ get_or places (get_or vs i 0) 0 → IsRelease places (take i vs) best
    → ((best < place) × (next ≡ place)) ⊎ ((place ≤ best) × (next ≡ best)) → IsRelease places (take (i + 1) vs) next
release_on places vs i best place next lt at now cases =
    elim cases [
      | inl new ↦ record {
        upper = λ v c. elim (split v c) [
          | inl early ↦ omega (arith, now.upper v early, new.0, new.1)
          | inr e ↦ let same = ap (λ x. get_or places x 0) e in omega (arith, same, at, new.1)
        ];
        reached = λ _. (get_or vs i 0, subst (λ l. Contains l (get_or vs i 0)) (sym more) (Contains-append_right (take i vs) (get_or vs i 0 ∷ []) (get_or vs i 0) (member_head (get_or vs i 0) [])), sym at ∙ sym new.1);
      }
      | inr old ↦ record {
        upper = λ v c. elim (split v c) [
          | inl early ↦ omega (arith, now.upper v early, old.1)
          | inr e ↦ let same = ap (λ x. get_or places x 0) e in omega (arith, same, at, old.0, old.1)
        ];
        reached = λ some.
            let r = now.reached (omega (arith, some, old.1)) in
            (r.0, subst (λ l. Contains l r.0) (sym more) (Contains-append_left (take i vs) (get_or vs i 0 ∷ []) r.0 r.1), r.2 ∙ sym old.1);
      }
    ]
  where
    more : take (i + 1) vs ≡ take i vs ++ get_or vs i 0 ∷ []
    more = take_more vs i 0 lt

    split : (v : ℕ) → Contains (take (i + 1) vs) v → Contains (take i vs) v ⊎ (v ≡ get_or vs i 0)
    split v c =
        elim (Contains-append_cases (take i vs) (get_or vs i 0 ∷ []) v (subst (λ l. Contains l v) more c)) [
          | inl early ↦ inl early
          | inr late ↦ elim (member_cons (get_or vs i 0) [] v late) [ inl e ↦ inr (sym e) | inr z ↦ absurd (no_member v z) ]
        ]
