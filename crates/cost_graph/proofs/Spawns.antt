-- The places of Spawns among the events of a thread.
use Rattle.std.proofs.Common.{◌≡◌, ℕ, zero, suc, ◌+◌, ◌-◌, ◌<◌, ◌≤◌, List, [], ◌∷◌, ◌++◌, length, take, get_or, replicate, refl, sym, ap, ◌∙◌, subst, inl, inr, arith, ◌⊎◌}
use Rattle.std.specs.Prelude.{Some, slice_get}
use Rattle.std.proofs.lemmas.Bool.{cases_lt}
use Rattle.std.proofs.lemmas.List.{append-nil, length-append, get_or-append_right}
use Rattle.std.proofs.lemmas.Option.{slice_get-get_or}
use Rattle.std.proofs.Math.ListN.{get_or-append}
use Rattle.priml_syntax.specs.declared.event.Event.{Event}
use Rattle.priml_syntax.specs.declared.event.Event.TheVariants.{Start, Plain, Spawn, Join, Read, Wrote, End}
use Rattle.priml_syntax.specs.Events.{one_spawn, spawns}
use Rattle.cost_graph.specs.Inside.Tables.{IsSpawnPlace, AreSpawnPlaces}

-- the Spawns before one event more
pub spawns_more : (es : List Event) (n : ℕ) (d : Event) → n < length es → spawns (take (n + 1) es) ≡ spawns (take n es) + one_spawn (get_or es n d)
spawns_more [] n d lt = absurd (omega (arith, lt))
spawns_more (e ∷ es) zero d lt = omega arith
spawns_more (e ∷ es) (suc n) d lt =
    let rest = spawns_more es n d (omega (arith, lt)) in
    let same : suc n + 1 ≡ suc (n + 1) = omega arith in
    rw same (omega (arith, rest))

spawns_rise : (es : List Event) (m n : ℕ) → m ≤ n → spawns (take m es) ≤ spawns (take n es)
spawns_rise [] zero zero le = omega arith
spawns_rise [] zero (suc n) le = omega arith
spawns_rise [] (suc m) zero le = omega arith
spawns_rise [] (suc m) (suc n) le = omega arith
spawns_rise (e ∷ es) zero n le = omega arith
spawns_rise (e ∷ es) (suc m) zero le = absurd (omega (arith, le))
spawns_rise (e ∷ es) (suc m) (suc n) le = omega (arith, spawns_rise es m n (omega (arith, le)))

-- past a Spawn there is one more
past_spawn : (es : List Event) (m n : ℕ) → slice_get es m ≡ Some Spawn → m < n → spawns (take m es) < spawns (take n es)
past_spawn [] m n at lt = let z : ⊥ = cc in absurd z
past_spawn (e ∷ es) m zero at lt = absurd (omega (arith, lt))
past_spawn (e ∷ es) zero (suc n) at lt =
    let is : e ≡ Spawn = cc in
    omega (arith, ap one_spawn is)
past_spawn (e ∷ es) (suc m) (suc n) at lt = omega (arith, past_spawn es m n at (omega (arith, lt)))

-- there is one k-th Spawn
pub one_place : (es : List Event) (k m n : ℕ) → IsSpawnPlace es k m → IsSpawnPlace es k n → m ≡ n
one_place es k m n a b =
    elim (cases_lt m n) [
      | inl less ↦ absurd (omega (arith, past_spawn es m n a.event less, a.before, b.before))
      | inr more ↦ elim (cases_lt n m) [
        | inl less ↦ absurd (omega (arith, past_spawn es n m b.event less, a.before, b.before))
        | inr less ↦ omega (arith, more, less)
      ]
    ]

spawn_or_none : (e : Event) → ((e ≡ Spawn) × (one_spawn e ≡ 1)) ⊎ (one_spawn e ≡ 0)
spawn_or_none Start = inr refl
spawn_or_none Plain = inr refl
spawn_or_none Spawn = inl (refl, refl)
spawn_or_none (Join p) = inr refl
spawn_or_none Read = inr refl
spawn_or_none (Wrote n) = inr refl
spawn_or_none End = inr refl

-- the places of the Spawns before event n
pub record ArePlaces (es : List Event) (n : ℕ) (places : List ℕ) : Type 0 where
  pub long : length places ≡ spawns (take n es)
  pub are : (k : ℕ) → k < length places → IsSpawnPlace es k (get_or places k 0)

pub places_on : (es : List Event) (n : ℕ) (e : Event) (now next : List ℕ) → n < length es → e ≡ get_or es n e → next ≡ now ++ replicate (one_spawn e) n → ArePlaces es n now → ArePlaces es (n + 1) next
places_on es n e now next lt is more h =
    let count : spawns (take (n + 1) es) ≡ spawns (take n es) + one_spawn e = spawns_more es n e lt ∙ ap (λ (x : Event). spawns (take n es) + one_spawn x) (sym is) in
    elim (spawn_or_none e) [
      | inl s ↦ added s.0 s.1 count
      | inr none ↦
          let same : next ≡ now = more ∙ ap (λ k. now ++ replicate k n) none ∙ append-nil now in
          subst (ArePlaces es (n + 1)) (sym same) (record { long = omega (arith, h.long, count, none); are = h.are })
    ]
  where
    added : e ≡ Spawn → one_spawn e ≡ 1 → spawns (take (n + 1) es) ≡ spawns (take n es) + one_spawn e → ArePlaces es (n + 1) next
    added spawn one count =
        let grown : next ≡ now ++ n ∷ [] = more ∙ ap (λ k. now ++ replicate k n) one in
        let long : length (now ++ n ∷ []) ≡ length now + 1 = length-append now (n ∷ []) in
        let at : slice_get es n ≡ Some Spawn = slice_get-get_or es n e lt ∙ ap (λ (x : Event). Some x) (sym is ∙ spawn) in
        let place : (k : ℕ) → k < length (now ++ n ∷ []) → IsSpawnPlace es k (get_or (now ++ n ∷ []) k 0) = λ k k_lt.
        elim (cases_lt k (length now)) [
          | inl early ↦ subst (IsSpawnPlace es k) (sym (get_or-append now (n ∷ []) 0 k early)) (h.are k early)
          | inr late ↦
              let k_is : k ≡ length now = omega (arith, late, k_lt, long) in
              let there : get_or (now ++ n ∷ []) k 0 ≡ n = get_or-append_right now (n ∷ []) (length now) k 0 refl late ∙ ap (λ j. get_or (n ∷ []) j 0) (omega_zero k k_is) in
              subst (IsSpawnPlace es k) (sym there) (record { event = at; before = omega (arith, h.long, k_is) })
        ] in
        subst (ArePlaces es (n + 1)) (sym grown) (record { long = omega (arith, long, h.long, count, one); are = place })
      where
        omega_zero : (k : ℕ) → k ≡ length now → k - length now ≡ 0
        omega_zero k k_is = omega (arith, k_is)

pub all_places : (es : List Event) (places : List ℕ) → take (length es) es ≡ es → ArePlaces es (length es) places → AreSpawnPlaces es places
all_places es places whole h = record { long = h.long ∙ ap spawns whole; are = h.are }
