-- The records of the leaves that have ended, at their places.
use Rattle.std.proofs.Common.{◌≡◌, ℕ, ◌+◌, ◌%◌, ◌<◌, List, [], ◌∷◌, ◌++◌, Some, false, refl, sym, ◌∙◌, ap, arith, pos, get_or, if◌then◌else◌}
use Rattle.std.proofs.lemmas.Bool.{lt-ltb, le-ltb}
use Rattle.priml_syntax.specs.Values.{int_value, returned, Entry}
use Rattle.priml_syntax.specs.Paths.{same_path, path_lt}
use Rattle.priml_syntax.specs.Records.{Each}
use Rattle.priml_syntax.proofs.Orders.{same_path_refl, same_path_not}
use Rattle.core_steps.specs.Meaning.{placed, outcome_at}
use Rattle.source_maker.proofs.Leaf.{leaf_entry}

-- a record of one of the first threads that the chain spawned
pub record IsEarlier (count : ℕ) (r : Entry) : Type 0 where
  pub number : ℕ
  pub before : number < count
  pub path : r.path ≡ 0 ∷ 0 ∷ number ∷ []

abbrev pub AreEarlier : ℕ → List Entry → Type 0
AreEarlier count rs = Each (IsEarlier count) rs

earlier_path : (i count : ℕ) → i < count → path_lt (0 ∷ 0 ∷ count ∷ []) (0 ∷ 0 ∷ i ∷ []) ≡ false
earlier_path i count l = rw (le-ltb count i (omega arith), lt-ltb i count l) refl

other_path : (i count : ℕ) → i < count → 0 ∷ 0 ∷ i ∷ [] ≡ 0 ∷ 0 ∷ count ∷ [] → ⊥
other_path i count l e = omega (arith, ap (λ p. get_or p 2 0) e)

-- the next leaf comes behind the earlier ones
pub placed_last : (count k : ℕ) (rs : List Entry) → AreEarlier count rs → placed (leaf_entry count k) rs ≡ rs ++ leaf_entry count k ∷ []
placed_last count k [] a = refl
placed_last count k (r ∷ rs) a =
    let e : path_lt (0 ∷ 0 ∷ count ∷ []) r.path ≡ false = ap (λ p. path_lt (0 ∷ 0 ∷ count ∷ []) p) a.0.path ∙ earlier_path a.0.number count a.0.before in
    ap (λ b. if b then leaf_entry count k ∷ r ∷ rs else r ∷ placed (leaf_entry count k) rs) e ∙ ap (λ xs. r ∷ xs) (placed_last count k rs a.1)

pub earlier_more : (count k : ℕ) (rs : List Entry) → AreEarlier count rs → AreEarlier (count + 1) (rs ++ leaf_entry count k ∷ [])
earlier_more count k [] a = (record { number = count; before = omega arith; path = refl }, tt)
earlier_more count k (r ∷ rs) a = (record { number = a.0.number; before = omega (arith, a.0.before); path = a.0.path }, earlier_more count k rs a.1)

-- a leaf's outcome stands there
pub leaf_ended : (count k : ℕ) (rs more : List Entry) → AreEarlier count rs → outcome_at ((rs ++ leaf_entry count k ∷ []) ++ more) (0 ∷ 0 ∷ count ∷ []) ≡ Some (returned (int_value (pos (k % 7))))
leaf_ended count k [] more a = rw (same_path_refl (0 ∷ 0 ∷ count ∷ [])) refl
leaf_ended count k (r ∷ rs) more a =
    let e : same_path r.path (0 ∷ 0 ∷ count ∷ []) ≡ false = same_path_not r.path (0 ∷ 0 ∷ count ∷ []) (λ s. other_path a.0.number count a.0.before (sym a.0.path ∙ s)) in
    ap (λ b. if b then Some r.outcome else outcome_at ((rs ++ leaf_entry count k ∷ []) ++ more) (0 ∷ 0 ∷ count ∷ [])) e ∙ leaf_ended count k rs more a.1
