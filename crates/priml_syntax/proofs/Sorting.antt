-- Sorting the lists that threads read.
use Rattle.std.proofs.Common.{◌≡◌, ◌≢◌, ℕ, suc, ◌+◌, ◌<◌, ◌≤◌, List, [], ◌∷◌, ◌⊎◌, inl, inr, length, refl, sym, ◌∙◌, ap, arith, add-one, true, false, Bool, if◌then◌else◌, subst}
use Rattle.std.specs.Prelude.{slice_index_or}
use Rattle.std.specs.declared.cmp.Ordering.TheVariants.{Less}
use Rattle.std.specs.Ordering.{nat_cmp, is_lt}
use Rattle.std.specs.Cmp.Lexicographic.{slice_cmp}
use Rattle.std.specs.List.{sum_by}
use Rattle.std.specs.List.Sorted.{IsPermutation, IsSortedBy}
use Rattle.std.proofs.lemmas.List.Sorted.{sum_by-IsPermutation, IsPermutation-map}
use Rattle.std.proofs.lemmas.List.Sums.{sum_by-cons}
use Rattle.priml_syntax.specs.Paths.{same_path, Precedes}
use Rattle.priml_syntax.specs.Inputs.{inputs_of, read_lists, IsNoneOf, NoPathTwice, IsBeforeEach, RiseByPath}
use Rattle.priml_syntax.proofs.Orders.{transitive, precedes_less, cases_path, same_path_is, same_path_refl, same_path_not}
use Rattle.priml_syntax.proofs.Given.{Stored, Given, stored, same_lists, rise_apart}

-- a test as a number
abbrev one_or_none : Bool → ℕ
one_or_none b = if b then 1 else 0

one_if : (b : Bool) → b ≡ true → one_or_none b ≡ 1
one_if true e = refl
one_if false e = absurd (cc)

none_if : (b : Bool) → b ≡ false → one_or_none b ≡ 0
none_if true e = absurd (cc)
none_if false e = refl

-- 1 at each list of the path
abbrev weight : List ℕ → Given → ℕ
weight p e = one_or_none (same_path e.0 p)

weight_same : (p : List ℕ) (e : Given) → e.0 ≡ p → weight p e ≡ 1
weight_same p e s = one_if (same_path e.0 p) (subst (λ q. same_path e.0 q ≡ true) s (same_path_refl e.0))

weight_other : (p : List ℕ) (e : Given) → e.0 ≢ p → weight p e ≡ 0
weight_other p e n = none_if (same_path e.0 p) (same_path_not e.0 p n)

-- a path of no list is counted never
none_counted : (p : List ℕ) (xs : List Given) → IsNoneOf p xs → sum_by (weight p) xs ≡ 0
none_counted p [] n = refl
none_counted p (x ∷ xs) n = let a = weight_other p x n.0 in let b = none_counted p xs n.1 in let e = sum_by-cons (weight p) x xs in omega (arith, a, b, e)

-- where no path stands twice each is counted once at most
counted_once : (xs : List Given) (p : List ℕ) → NoPathTwice xs → sum_by (weight p) xs ≤ 1
counted_once [] p n = omega arith
counted_once (x ∷ xs) p n = go (same_path x.0 p) refl (counted_once xs p n.1)
  where
    e : sum_by (weight p) (x ∷ xs) ≡ weight p x + sum_by (weight p) xs
    e = sum_by-cons (weight p) x xs

    go : (b : Bool) → same_path x.0 p ≡ b → sum_by (weight p) xs ≤ 1 → sum_by (weight p) (x ∷ xs) ≤ 1
    go true h r =
        let s = same_path_is x.0 p h in
        let a = weight_same p x s in
        let b : sum_by (weight p) xs ≡ 0 = none_counted p xs (subst (λ q. IsNoneOf q xs) s n.0) in omega (arith, a, b, e)
    go false h r = let a : weight p x ≡ 0 = none_if (same_path x.0 p) h in omega (arith, a, r, e)

-- a path of two lists side by side is counted twice
counted_twice : (x y : Given) (xs : List Given) → x.0 ≡ y.0 → 2 ≤ sum_by (weight x.0) (x ∷ y ∷ xs)
counted_twice x y xs s =
    let a = weight_same x.0 x refl in
    let b = weight_same x.0 y (sym s) in
    let e = sum_by-cons (weight x.0) x (y ∷ xs) in
    let f = sum_by-cons (weight x.0) y xs in omega (arith, a, b, e, f)

-- what stands before the first stands before all
before_more : (p q : List ℕ) (xs : List Given) → Precedes p q → IsBeforeEach q xs → IsBeforeEach p xs
before_more p q [] h k = tt
before_more p q (x ∷ xs) h k = (transitive p q x.0 h k.0, before_more p q xs h k.1)

-- no list stands before the one ahead of it
abbrev Adjacent : List Stored → Type 0
Adjacent xs = (k : ℕ) (d : Stored) → suc k < length xs → is_lt (slice_cmp nat_cmp (slice_index_or xs (suc k) d).0 (slice_index_or xs k d).0) ≡ false

-- no path is counted twice
abbrev Once : List Stored → Type 0
Once xs = (p : List ℕ) → sum_by (weight p) (read_lists xs) ≤ 1

-- so the next stands after it
next_after : (x y : Stored) (ys : List Stored) → is_lt (slice_cmp nat_cmp y.0 x.0) ≡ false → Once (x ∷ y ∷ ys) → Precedes x.0 y.0
next_after x y ys a o = go (cases_path x.0 y.0)
  where
    wrong : is_lt Less ≡ false → ⊥
    wrong e = cc

    go : Precedes x.0 y.0 ⊎ ((x.0 ≡ y.0) ⊎ Precedes y.0 x.0) → Precedes x.0 y.0
    go (inl h) = h
    go (inr (inl s)) = let t = counted_twice (x.0, x.1.items) (y.0, y.1.items) (read_lists ys) s in let u = o x.0 in absurd (omega (arith, t, u))
    go (inr (inr h)) = absurd (wrong (ap is_lt (sym (precedes_less y.0 x.0 h)) ∙ a))

-- and all the others
first_before : (x : Stored) (ys : List Stored) → Adjacent (x ∷ ys) → Once (x ∷ ys) → RiseByPath (read_lists ys) → IsBeforeEach x.0 (read_lists ys)
first_before x [] a o r = tt
first_before x (y ∷ ys) a o r =
    let h = next_after x y ys (a 0 x (omega arith)) o in (h, before_more x.0 y.0 (read_lists ys) h r.0)

-- one list less
fewer : (x : Stored) (xs : List Stored) → Once (x ∷ xs) → Once xs
fewer x xs o p = let e = sum_by-cons (weight p) (x.0, x.1.items) (read_lists xs) in let u = o p in omega (arith, e, u)

rise_cons : (x : Stored) (xs : List Stored) → Adjacent (x ∷ xs) → Once (x ∷ xs) → RiseByPath (read_lists xs) → RiseByPath (read_lists (x ∷ xs))
rise_cons x xs a o r = (first_before x xs a o r, r)

-- so the paths rise
rise : (xs : List Stored) → Adjacent xs → Once xs → RiseByPath (read_lists xs)
rise [] a o = tt
rise (x ∷ xs) a o = rise_cons x xs a o (rise xs (λ k d l. a (suc k) d (omega arith)) (fewer x xs o))

-- sorted lists of which no path stood twice rise
pub sorted_rise : (xs ys : List Stored) → NoPathTwice (read_lists xs) → IsPermutation xs ys → IsSortedBy (λ x y. is_lt (slice_cmp nat_cmp x.0 y.0)) ys → RiseByPath (read_lists ys)
sorted_rise xs ys n s h = rise ys adjacent once
  where
    adjacent : Adjacent ys
    adjacent k d l = subst (λ n. is_lt (slice_cmp nat_cmp (slice_index_or ys n d).0 (slice_index_or ys k d).0) ≡ false) (add-one k) (h k d (omega arith) (omega (arith, l)))

    once : Once ys
    once p = let e = sum_by-IsPermutation (weight p) (read_lists xs) (read_lists ys) (IsPermutation-map stored xs ys s) in let u = counted_once (read_lists xs) p n in omega (arith, e, u)

-- and sorted lists that rise give each path what they gave unsorted
pub sorted_same : (xs ys : List Stored) → NoPathTwice (read_lists xs) → RiseByPath (read_lists ys) → IsPermutation xs ys → (p : List ℕ) → inputs_of (read_lists ys) p ≡ inputs_of (read_lists xs) p
sorted_same xs ys n r s = same_lists (read_lists xs) (read_lists ys) n (rise_apart (read_lists ys) r) (IsPermutation-map stored xs ys s)
