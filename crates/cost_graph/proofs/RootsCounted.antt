-- Roots, counted along the records in the order of their paths.
use Rattle.std.proofs.Common.{◌≡◌, ◌≢◌, ℕ, ◌+◌, ◌<◌, List, [], ◌∷◌, length, map, sym, ap, ◌∙◌, subst, inl, inr, arith, ◌↔◌}
use Rattle.std.specs.Prelude.{Some}
use Rattle.std.proofs.lemmas.Bool.{cases_lt}
use Rattle.std.proofs.lemmas.List.{length-map}
use Rattle.priml_syntax.specs.declared.record.Record.{Record}
use Rattle.priml_syntax.specs.Paths.{Precedes}
use Rattle.priml_syntax.specs.Read.{read_record}
use Rattle.priml_syntax.specs.Values.{Entry}
use Rattle.priml_syntax.specs.Records.{InPathOrder}
use Rattle.cost_graph.specs.Records.{Part, part_of, parts_of, parts_in, part_at, IsThere, HasRoots}
use Rattle.cost_graph.specs.Inside.Tables.{part_nth}
use Rattle.cost_graph.proofs.Parts.{AreApart, parts_length, apart_of, parts_rise, part_found, part_here}

-- a thread stands at some place
there_to : (xs : List Part) (p : List ℕ) → IsThere xs p → (t : ℕ) × (t < length xs) × ((part_nth xs t).path ≡ p)
there_to xs p h = let r = part_found xs p h.0 h.1 in (r.0, r.1, ap (λ (x : Part). x.path) r.2 ∙ r.3)

there_from : (xs : List Part) (t : ℕ) (p : List ℕ) → AreApart xs → t < length xs → (part_nth xs t).path ≡ p → IsThere xs p
there_from xs t p apart lt e = (part_nth xs t, subst (λ q. part_at xs q ≡ Some (part_nth xs t)) e (part_here xs t apart lt))

-- root k is among the first n threads
abbrev pub IsRootBefore : List Part → ℕ → ℕ → Type 0
IsRootBefore xs n k = (t : ℕ) × (t < n) × ((part_nth xs t).path ≡ k ∷ [])

-- the roots among the first n threads are 0 to count - 1
abbrev pub HasRootsBefore : List Part → ℕ → ℕ → Type 0
HasRootsBefore xs n count = (k : ℕ) → IsRootBefore xs n k ↔ (k < count)

one_number : (j k : ℕ) → j ∷ [] ≡ k ∷ [] → j ≡ k
one_number j k e = cc

pub none_before : (xs : List Part) → HasRootsBefore xs 0 0
none_before xs k = (λ b. absurd (omega (arith, b.1)), λ l. absurd (omega (arith, l)))

pub other_on : (xs : List Part) (n count : ℕ) → HasRootsBefore xs n count → length (part_nth xs n).path ≢ 1 → HasRootsBefore xs (n + 1) count
other_on xs n count before other k = (forth, λ l. let b = (before k).1 l in (b.0, omega (arith, b.1), b.2))
  where
    forth : IsRootBefore xs (n + 1) k → k < count
    forth b = elim (cases_lt b.0 n) [
      | inl early ↦ (before k).0 (b.0, early, b.2)
      | inr late ↦ let here : b.0 ≡ n = omega (arith, late, b.1) in absurd (other (sym (ap (λ t. length (part_nth xs t).path) here) ∙ ap length b.2))
    ]

pub root_on : (xs : List Part) (n count : ℕ) → HasRootsBefore xs n count → (part_nth xs n).path ≡ count ∷ [] → HasRootsBefore xs (n + 1) (count + 1)
root_on xs n count before is k = (forth, back)
  where
    forth : IsRootBefore xs (n + 1) k → k < count + 1
    forth b = elim (cases_lt b.0 n) [
      | inl early ↦ let l = (before k).0 (b.0, early, b.2) in omega (arith, l)
      | inr late ↦
          let here : b.0 ≡ n = omega (arith, late, b.1) in
          let same : k ≡ count = one_number k count (sym b.2 ∙ (ap (λ t. (part_nth xs t).path) here ∙ is)) in
          omega (arith, same)
    ]

    back : k < count + 1 → IsRootBefore xs (n + 1) k
    back l = elim (cases_lt k count) [
      | inl early ↦ let b = (before k).1 early in (b.0, omega (arith, b.1), b.2)
      | inr late ↦ let same : count ≡ k = omega (arith, late, l) in (n, omega arith, is ∙ ap (λ j. j ∷ []) same)
    ]

-- of all threads
all_roots : (xs : List Part) (count : ℕ) → AreApart xs → HasRootsBefore xs (length xs) count → HasRoots xs count
all_roots xs count apart before k = (
  λ h. let t = there_to xs (k ∷ []) h in (before k).0 t,
  λ l. let t = (before k).1 l in there_from xs t.0 (k ∷ []) apart t.1 t.2,
)

pub roots_counted : (xs : List Part) (count : ℕ) → AreApart xs → HasRootsBefore xs (length xs) count → (0 < count) ↔ ((r : ℕ) × (0 < r) × HasRoots xs r)
roots_counted xs count apart before = (λ l. (count, l, all_roots xs count apart before), λ h. (all_roots xs count apart before 0).0 ((h.2 0).1 h.1))

-- a root that is not the next one shows that one is lacking
module _ (es : List Entry) (order : InPathOrder es) (n count k : ℕ) (before : HasRootsBefore (parts_of es) n count) (within : n < length (parts_of es)) (is : (part_nth (parts_of es) n).path ≡ k ∷ []) where
  abbrev xs : List Part
  xs = parts_of es

  not_earlier : k < count → ⊥
  not_earlier l =
      let b = (before k).1 l in
      let same : b.0 ≡ n = apart_of es order b.0 n (omega (arith, b.1, within)) within (b.2 ∙ sym is) in
      omega (arith, same, b.1)

  lacks : count < k → IsThere xs (count ∷ []) → ⊥
  lacks l h =
      let t = there_to xs (count ∷ []) h in
      elim (cases_lt n t.0) [
        | inl after ↦
            let p = parts_rise es n t.0 order after (omega (arith, t.1, length-map es part_of)) in
            let q : Precedes (k ∷ []) (count ∷ []) = subst (λ a. Precedes a (count ∷ [])) is (subst (Precedes (part_nth xs n).path) t.2 p) in
            elim q [ inl less ↦ omega (arith, less, l) | inr other ↦ absurd other.1 ]
        | inr upto ↦ elim (cases_lt t.0 n) [
          | inl early ↦ let z = (before count).0 (t.0, early, t.2) in omega (arith, z)
          | inr late ↦
              let here : t.0 ≡ n = omega (arith, upto, late) in
              let same : count ≡ k = one_number count k (sym t.2 ∙ (ap (λ j. (part_nth xs j).path) here ∙ is)) in
              omega (arith, same, l)
        ]
      ]

  pub gap : k ≢ count → ((r : ℕ) × (0 < r) × HasRoots xs r) → ⊥
  gap other h = elim (cases_lt k count) [
    | inl less ↦ not_earlier less
    | inr more ↦
        let small : k < h.0 = (h.2 k).0 (there_from xs n (k ∷ []) (apart_of es order) within is) in
        let next : count < k = omega (arith, more, other) in
        lacks next ((h.2 count).1 (omega (arith, next, small)))
  ]

pub gap_in : (rs : List Record) (n count k : ℕ) → InPathOrder (map read_record rs) → HasRootsBefore (parts_in rs) n count → n < length rs → (part_nth (parts_in rs) n).path ≡ k ∷ [] → k ≢ count → ((r : ℕ) × (0 < r) × HasRoots (parts_in rs) r) → ⊥
gap_in rs n count k order before lt is other h = gap (map read_record rs) order n count k before (omega (arith, lt, parts_length rs)) is other h
