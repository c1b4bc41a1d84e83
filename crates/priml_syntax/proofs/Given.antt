-- Laws of the lists that threads read.
use Rattle.std.proofs.Common.{◌≡◌, ◌≢◌, ℕ, zero, suc, ◌<◌, List, [], ◌∷◌, ◌⊎◌, inl, inr, length, refl, sym, ◌∙◌, ap, arith, true, false, Bool, if◌then◌else◌, subst}
use Rattle.std.specs.Prelude.{ℤ, Result, Ok, Err, IfOk, IfErr, slice_index_or}
use Rattle.std.specs.declared.vec.Vec.{Vec}
use Rattle.std.specs.declared.alloc.Global.{Global}
use Rattle.std.specs.Ordering.{nat_cmp}
use Rattle.std.specs.Cmp.Lexicographic.{slice_cmp}
use Rattle.std.specs.List.{Contains, HoldsAt}
use Rattle.std.specs.List.Sorted.{IsPermutation, IsSearchInRange, IsBinarySearchResult}
use Rattle.std.proofs.lemmas.List.Sorted.{IsPermutation-sym, Contains-permutation}
use Rattle.std.proofs.lemmas.List.{length-map}
use Rattle.priml_syntax.specs.Paths.{same_path, Precedes}
use Rattle.priml_syntax.specs.Inputs.{inputs_of, read_lists, IsNoneOf, NoPathTwice, IsBeforeEach, RiseByPath}
use Rattle.priml_syntax.proofs.Orders.{irreflexive, same_path_is, same_path_refl, same_path_not, KeysRise, key_found, key_absent}

-- a path and its list, as they are stored
abbrev pub Stored : Type 0
Stored = List ℕ × Vec ℤ Global

-- the same without the room of the list
abbrev pub Given : Type 0
Given = List ℕ × List ℤ

-- the one by the other
abbrev pub stored : Stored → Given
stored e = (e.0, e.1.items)

-- a choice that is known
chosen : (b : Bool) (x y : List ℤ) → b ≡ true → (if b then x else y) ≡ x
chosen true x y e = refl
chosen false x y e = absurd (cc)

passed : (b : Bool) (x y : List ℤ) → b ≡ false → (if b then x else y) ≡ y
passed true x y e = absurd (cc)
passed false x y e = refl

-- the path is that of none of the lists
none_at : (p : List ℕ) (xs : List Given) (i : ℕ) (d : Given) → IsNoneOf p xs → i < length xs → (slice_index_or xs i d).0 ≢ p
none_at p [] i d n l = absurd (omega arith)
none_at p (x ∷ xs) zero d n l = n.0
none_at p (x ∷ xs) (suc i) d n l = none_at p xs i d n.1 (omega arith)

-- each list is that of its path
list_at : (xs : List Given) (i : ℕ) (d : Given) → NoPathTwice xs → i < length xs → inputs_of xs (slice_index_or xs i d).0 ≡ (slice_index_or xs i d).1
list_at [] i d n l = absurd (omega arith)
list_at (x ∷ xs) zero d n l = chosen (same_path x.0 x.0) x.1 (inputs_of xs x.0) (same_path_refl x.0)
list_at (x ∷ xs) (suc i) d n l =
    let e = slice_index_or xs i d in
    passed (same_path x.0 e.0) x.1 (inputs_of xs e.0) (same_path_not x.0 e.0 (λ s. none_at x.0 xs i d n.0 (omega arith) (sym s))) ∙ list_at xs i d n.1 (omega arith)

-- a list that is there is what its path reads
pub list_in : (xs : List Given) (e : Given) (p : List ℕ) → NoPathTwice xs → Contains xs e → e.0 ≡ p → inputs_of xs p ≡ e.1
list_in xs e p n c s = subst (λ q. inputs_of xs q ≡ e.1) s (subst (λ (z : Given). inputs_of xs z.0 ≡ z.1) c.2 (list_at xs c.0 e n c.1))

-- no list is the path's
abbrev IsAbsent : List Given → List ℕ → Type 0
IsAbsent xs p = (e : Given) → Contains xs e → e.0 ≢ p

-- then it reads nothing
pub no_list : (xs : List Given) (p : List ℕ) → IsAbsent xs p → inputs_of xs p ≡ []
no_list [] p h = refl
no_list (x ∷ xs) p h = passed (same_path x.0 p) x.1 (inputs_of xs p) (same_path_not x.0 p (h x (0, omega arith, refl))) ∙ no_list xs p (λ e c. h e (suc c.0, omega (arith, c.1), c.2))

-- one list more that is not the path's
absent_cons : (x : Given) (xs : List Given) (p : List ℕ) → x.0 ≢ p → IsAbsent xs p → IsAbsent (x ∷ xs) p
absent_cons x xs p n h e c = go c.0 c.1 c.2
  where
    go : (k : ℕ) → k < length (x ∷ xs) → slice_index_or (x ∷ xs) k e ≡ e → e.0 ≢ p
    go zero l s = subst (λ (z : Given). z.0 ≢ p) s n
    go (suc k) l s = h e (k, omega arith, s)

-- the path has a list, or it has none
abbrev Looked : List Given → List ℕ → Type 0
Looked xs p = ((e : Given) × Contains xs e × (e.0 ≡ p)) ⊎ IsAbsent xs p

looked : (xs : List Given) (p : List ℕ) → Looked xs p
looked [] p = inr (λ e c. absurd (let l = c.1 in omega (arith, l)))
looked (x ∷ xs) p = go (same_path x.0 p) refl (looked xs p)
  where
    go : (b : Bool) → same_path x.0 p ≡ b → Looked xs p → Looked (x ∷ xs) p
    go true e r = inl (x, (0, omega arith, refl), same_path_is x.0 p e)
    go false e (inl t) = let l = t.1.1 in inl (t.0, (suc t.1.0, omega (arith, l), t.1.2), t.2)
    go false e (inr h) = inr (absent_cons x xs p (λ s. differ (sym e ∙ ap (same_path x.0) (sym s) ∙ same_path_refl x.0)) h)
      where
        differ : false ≡ true → ⊥
        differ q = cc

-- lists in another order give each path the same
pub same_lists : (xs ys : List Given) → NoPathTwice xs → NoPathTwice ys → IsPermutation xs ys → (p : List ℕ) → inputs_of ys p ≡ inputs_of xs p
same_lists xs ys n m s p = go (looked ys p)
  where
    go : Looked ys p → inputs_of ys p ≡ inputs_of xs p
    go (inl t) = list_in ys t.0 p m t.1 t.2 ∙ sym (list_in xs t.0 p n (Contains-permutation ys xs t.0 (IsPermutation-sym xs ys s) t.1) t.2)
    go (inr h) = no_list ys p h ∙ sym (no_list xs p (λ e c. h e (Contains-permutation xs ys e s c)))

-- a path does not stand before itself
before_none : (p : List ℕ) (xs : List Given) → IsBeforeEach p xs → IsNoneOf p xs
before_none p [] h = tt
before_none p (x ∷ xs) h = ((λ e. irreflexive p (subst (Precedes p) e h.0)), before_none p xs h.1)

-- where the paths rise none stands twice
pub rise_apart : (xs : List Given) → RiseByPath xs → NoPathTwice xs
rise_apart [] h = tt
rise_apart (x ∷ xs) h = (before_none x.0 xs h.0, rise_apart xs h.1)

-- the same by index
before_at : (p : List ℕ) (xs : List Stored) (j : ℕ) (d : Stored) → IsBeforeEach p (read_lists xs) → j < length xs → Precedes p (slice_index_or xs j d).0
before_at p [] j d h l = absurd (omega arith)
before_at p (x ∷ xs) zero d h l = h.0
before_at p (x ∷ xs) (suc j) d h l = before_at p xs j d h.1 (omega arith)

rise_at : (xs : List Stored) → RiseByPath (read_lists xs) → KeysRise (λ (e : Stored). e.0) xs
rise_at [] h i j d l m = absurd (omega arith)
rise_at (x ∷ xs) h i zero d l m = absurd (omega arith)
rise_at (x ∷ xs) h zero (suc j) d l m = before_at x.0 xs j d h.0 (omega arith)
rise_at (x ∷ xs) h (suc i) (suc j) d l m = rise_at xs h.1 i j d (omega arith) (omega arith)

-- the readings by index
read_at : (xs : List Stored) (i : ℕ) (d : Stored) → i < length xs → slice_index_or (read_lists xs) i (d.0, d.1.items) ≡ ((slice_index_or xs i d).0, (slice_index_or xs i d).1.items)
read_at [] i d l = absurd (omega arith)
read_at (x ∷ xs) zero d l = refl
read_at (x ∷ xs) (suc i) d l = read_at xs i d (omega arith)

-- what a path reads is what is stored for it
stored_list : (xs : List Stored) (i : ℕ) (d : Stored) (p : List ℕ) → NoPathTwice (read_lists xs) → i < length xs → (slice_index_or xs i d).0 ≡ p → (slice_index_or xs i d).1.items ≡ inputs_of (read_lists xs) p
stored_list xs i d p n l s =
    let is = list_at (read_lists xs) i (d.0, d.1.items) n (let e : length (read_lists xs) ≡ length xs = length-map xs stored in omega (arith, e, l)) in
    sym (subst (λ (z : Given). inputs_of (read_lists xs) z.0 ≡ z.1) (read_at xs i d l) is) ∙ ap (inputs_of (read_lists xs)) s

-- and nothing where nothing is stored for it
none_stored : (xs : List Stored) (p : List ℕ) → ((e : Stored) → Contains xs e → e.0 ≢ p) → inputs_of (read_lists xs) p ≡ []
none_stored [] p h = refl
none_stored (x ∷ xs) p h = passed (same_path x.0 p) x.1.items (inputs_of (read_lists xs) p) (same_path_not x.0 p (h x (0, omega arith, refl))) ∙ none_stored xs p (λ e c. h e (suc c.0, omega (arith, c.1), c.2))

-- what a search by halves tells of a path's list
pub stored_found : (xs : List Stored) (p : List ℕ) (r : Result ℕ ℕ) → RiseByPath (read_lists xs) → IsSearchInRange r (length xs) → IsBinarySearchResult (λ (y : Stored). slice_cmp nat_cmp y.0 p) xs r → IfOk r (λ i. (i < length xs) × HoldsAt (λ (e : Stored). e.1.items ≡ inputs_of (read_lists xs) p) xs i)
stored_found xs p (Ok i) h b s = let k = key_found (λ (e : Stored). e.0) xs p (Ok i) b s in (k.0, λ d. stored_list xs i d p (rise_apart (read_lists xs) h) k.0 (k.1 d))
stored_found xs p (Err i) h b s = tt

pub stored_absent : (xs : List Stored) (p : List ℕ) (r : Result ℕ ℕ) → RiseByPath (read_lists xs) → IsBinarySearchResult (λ (y : Stored). slice_cmp nat_cmp y.0 p) xs r → IfErr r (λ _. inputs_of (read_lists xs) p ≡ [])
stored_absent xs p (Ok i) h s = tt
stored_absent xs p (Err i) h s = none_stored xs p (key_absent (λ (e : Stored). e.0) xs p (Err i) (rise_at xs h) s)
