-- Sorting logs by their paths.
use Rattle.std.proofs.Common.{◌≡◌, ◌≢◌, ℕ, suc, ◌<◌, List, [], ◌∷◌, ◌⊎◌, inl, inr, length, map, refl, sym, ◌∙◌, ap, arith, add-one, true, false, Bool, true≢false, subst}
use Rattle.std.specs.Prelude.{slice_index_or}
use Rattle.std.specs.Borrow.{Bor}
use Rattle.std.specs.declared.cmp.Ordering.TheVariants.{Less}
use Rattle.std.specs.Ordering.{nat_cmp, is_lt}
use Rattle.std.specs.Cmp.Lexicographic.{slice_cmp}
use Rattle.std.specs.List.{AllByRecursion, IsDistinct}
use Rattle.std.specs.List.Sorted.{IsPermutation, IsSortedBy}
use Rattle.std.proofs.lemmas.List.Sorted.{IsPermutation-map}
use Rattle.std.proofs.lemmas.Map.Keys.{IsDistinct-IsPermutation, IsDistinct-head, IsDistinct-tail}
use Rattle.priml_syntax.specs.Paths.{same_path, Precedes}
use Rattle.priml_syntax.proofs.Orders.{transitive, precedes_less, cases_path, same_path_is, same_path_refl, same_path_not}
use Rattle.trace_book.specs.Log.{Log}
use Rattle.trace_book.specs.Book.{NoPathTwice, RiseByPath, IsInPathOrder}
use Rattle.trace_book.specs.Inside.Books.{seen}

abbrev paths : List Log → List (List ℕ)
paths = map (λ (l : Log). l.path)

-- the test answers the same the other way round
flips : (p q : List ℕ) → same_path p q ≡ same_path q p
flips p q = go (same_path p q) refl
  where
    go : (b : Bool) → same_path p q ≡ b → same_path p q ≡ same_path q p
    go true e = e ∙ sym (subst (λ z. same_path z p ≡ true) (same_path_is p q e) (same_path_refl p))
    go false e = e ∙ sym (same_path_not q p (λ s. true≢false (sym (same_path_refl p) ∙ (subst (λ z. same_path p z ≡ false) s e))))

-- logs with other paths have other paths by the test
apart : (p : List ℕ) (ls : List Log) → AllByRecursion (λ (m : Log). p ≢ m.path) ls → AllByRecursion (λ q. same_path p q ≡ false) (paths ls)
apart p [] n = tt
apart p (l ∷ ls) n = (same_path_not p l.path n.0, apart p ls n.1)

-- no path stands twice
distinct : (ls : List Log) → NoPathTwice ls → IsDistinct same_path (paths ls)
unfolding IsDistinct
distinct [] n = tt
distinct (l ∷ ls) n = (apart l.path ls n.0, distinct ls n.1)

-- what stands before the first stands before all
before_more : (p q : List ℕ) (xs : List Log) → Precedes p q → AllByRecursion (λ (m : Log). Precedes q m.path) xs → AllByRecursion (λ (m : Log). Precedes p m.path) xs
before_more p q [] h k = tt
before_more p q (x ∷ xs) h k = (transitive p q x.path h k.0, before_more p q xs h k.1)

-- no log stands before the one ahead of it
abbrev Adjacent : List (Bor Log) → Type 0
Adjacent xs = (k : ℕ) (d : Bor Log) → suc k < length xs → is_lt (slice_cmp nat_cmp (slice_index_or xs (suc k) d).now.path (slice_index_or xs k d).now.path) ≡ false

-- so the next, which has another path, stands after it
next_after : (p q : List ℕ) → is_lt (slice_cmp nat_cmp q p) ≡ false → same_path p q ≡ false → Precedes p q
next_after p q a other = go (cases_path p q)
  where
    wrong : is_lt Less ≡ false → ⊥
    wrong e = cc

    go : Precedes p q ⊎ ((p ≡ q) ⊎ Precedes q p) → Precedes p q
    go (inl h) = h
    go (inr (inl s)) = absurd (true≢false (sym (same_path_refl p) ∙ subst (λ z. same_path p z ≡ false) (sym s) other))
    go (inr (inr h)) = absurd (wrong (ap is_lt (sym (precedes_less q p h)) ∙ a))

-- and all the others
first_before : (x : Bor Log) (ys : List (Bor Log)) → Adjacent (x ∷ ys) → AllByRecursion (λ q. same_path x.now.path q ≡ false) (paths (seen ys)) → RiseByPath (seen ys) → AllByRecursion (λ (m : Log). Precedes x.now.path m.path) (seen ys)
first_before x [] a o r = tt
first_before x (y ∷ ys) a o r =
    let h = next_after x.now.path y.now.path (a 0 x (omega arith)) o.0 in (h, before_more x.now.path y.now.path (seen ys) h r.0)

-- so the paths rise
rise : (xs : List (Bor Log)) → Adjacent xs → IsDistinct same_path (paths (seen xs)) → RiseByPath (seen xs)
rise [] a o = tt
rise (x ∷ xs) a o =
    let r = rise xs (λ k d l. a (suc k) d (omega arith)) (IsDistinct-tail same_path x.now.path (paths (seen xs)) o) in
    (first_before x xs a (IsDistinct-head same_path x.now.path (paths (seen xs)) o) r, r)

-- sorted logs of which no path stood twice rise
pub sorted_rise : (logs : List Log) (xs ys : List (Bor Log)) → NoPathTwice logs → seen xs ≡ logs → IsPermutation xs ys → IsSortedBy (λ x y. is_lt (slice_cmp nat_cmp x.now.path y.now.path)) ys → IsInPathOrder logs (seen ys)
sorted_rise logs xs ys n is s h = (same, rise ys adjacent once)
  where
    same : IsPermutation logs (seen ys)
    same = subst (λ z. IsPermutation z (seen ys)) is (IsPermutation-map (λ (r : Bor Log). r.now) xs ys s)

    adjacent : Adjacent ys
    adjacent k d l = subst (λ n. is_lt (slice_cmp nat_cmp (slice_index_or ys n d).now.path (slice_index_or ys k d).now.path) ≡ false) (add-one k) (h k d (omega arith) (omega (arith, l)))

    once : IsDistinct same_path (paths (seen ys))
    once = IsDistinct-IsPermutation same_path flips (paths logs) (paths (seen ys)) (IsPermutation-map (λ (l : Log). l.path) logs (seen ys) same) (distinct logs n)
