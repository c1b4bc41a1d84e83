-- Laws of the order of paths.
use Rattle.std.proofs.Common.{◌≡◌, ◌≢◌, ℕ, zero, suc, ◌<◌, ◌≤◌, List, [], ◌∷◌, length, map, ◌⊎◌, ◌↔◌, inl, inr, refl, sym, ◌∙◌, ap, subst, arith, Bool, true, false, ◌&&◌, eq-eqb, if◌then◌else◌}
use Rattle.std.specs.Prelude.{Result, Ok, Err, IfOk, IfErr, nat_lt, eqb, slice_index_or}
use Rattle.std.specs.Ordering.{nat_cmp, ordering_index, ordering_reverse}
use Rattle.std.specs.declared.cmp.Ordering.{Ordering}
use Rattle.std.specs.declared.cmp.Ordering.TheVariants.{Less, Equal, Greater}
use Rattle.std.specs.Cmp.{nat_cmp_is, IsTotalOrder}
use Rattle.std.specs.Cmp.Lexicographic.{slice_cmp}
use Rattle.std.proofs.lemmas.Cmp.{nat_list_cmp_total}
use Rattle.std.proofs.lemmas.Map.Lookups.{exact_bytes}
use Rattle.std.specs.List.Sorted.{IsNonDecreasingBy, IsPartitionPoint, IsSearchInRange, IsBinarySearchResult}
use Rattle.std.specs.List.{Contains, HoldsAt}
use Rattle.std.proofs.lemmas.Bool.Decides.{eqb_tells}
use Rattle.std.proofs.lemmas.Bool.{cases_lt, lt-ltb, le-ltb}
use Rattle.priml_syntax.specs.Paths.{same_path, path_lt, Precedes}
use Rattle.priml_syntax.specs.Values.{Entry}
use Rattle.priml_syntax.specs.Records.{Each, InPathOrder}

less_equal : Less ≡ Equal → ⊥
less_equal e = cc

greater_equal : Greater ≡ Equal → ⊥
greater_equal e = cc

pub irreflexive : (p : List ℕ) → Precedes p p → ⊥
irreflexive [] h = h
irreflexive (x ∷ p) h = go h (irreflexive p)
  where
    go : (x < x) ⊎ ((x ≡ x) × Precedes p p) → (Precedes p p → ⊥) → ⊥
    go (inl a) f = omega arith
    go (inr a) f = f a.1

pub transitive : (p q r : List ℕ) → Precedes p q → Precedes q r → Precedes p r
transitive [] [] r h k = absurd h
transitive [] (y ∷ q) [] h k = absurd k
transitive [] (y ∷ q) (z ∷ r) h k = tt
transitive (x ∷ p) [] r h k = absurd h
transitive (x ∷ p) (y ∷ q) [] h k = absurd k
transitive (x ∷ p) (y ∷ q) (z ∷ r) h k = go h k (transitive p q r)
  where
    go : (x < y) ⊎ ((x ≡ y) × Precedes p q) → (y < z) ⊎ ((y ≡ z) × Precedes q r) → (Precedes p q → Precedes q r → Precedes p r) → (x < z) ⊎ ((x ≡ z) × Precedes p r)
    go (inl a) (inl b) f = inl (omega arith)
    go (inl a) (inr b) f = inl (omega (arith, a, b.0))
    go (inr a) (inl b) f = inl (omega (arith, a.0, b))
    go (inr a) (inr b) f = inr (a.0 ∙ b.0, f a.1 b.1)

abbrev pub Told : List ℕ → List ℕ → Bool → Type 0
Told p q true = Precedes p q
Told p q false = (p ≡ q) ⊎ Precedes q p

-- what the test tells
pub told : (p q : List ℕ) → Told p q (path_lt p q)
told [] [] = inl refl
told [] (y ∷ ys) = tt
told (x ∷ xs) [] = inr tt
told (x ∷ xs) (y ∷ ys) = first (cases_lt x y) (told xs ys)
  where
    next : (b : Bool) → x ≡ y → Told xs ys b → Told (x ∷ xs) (y ∷ ys) b
    next true e h = inr (e, h)
    next false e h = elim h [ inl a ↦ inl (λ i. e i ∷ a i) | inr a ↦ inr (inr (sym e, a)) ]

    second : (y < x) ⊎ (x ≤ y) → y ≤ x → Told xs ys (path_lt xs ys) → Told (x ∷ xs) (y ∷ ys) (if nat_lt y x then false else path_lt xs ys)
    second (inl a) l h = rw (lt-ltb y x a) (inr (inl a))
    second (inr a) l h = rw (le-ltb y x a) (next (path_lt xs ys) (omega arith) h)

    first : (x < y) ⊎ (y ≤ x) → Told xs ys (path_lt xs ys) → Told (x ∷ xs) (y ∷ ys) (if nat_lt x y then true else (if nat_lt y x then false else path_lt xs ys))
    first (inl a) h = rw (lt-ltb x y a) (inl a)
    first (inr a) h = rw (le-ltb x y a) (second (cases_lt y x) a h)

-- the order that `compare` answers by
pub precedes_less : (p q : List ℕ) → Precedes p q → slice_cmp nat_cmp p q ≡ Less
precedes_less [] [] h = absurd h
precedes_less [] (y ∷ q) h = refl
precedes_less (x ∷ p) [] h = absurd h
precedes_less (x ∷ p) (y ∷ q) h = go h (precedes_less p q)
  where
    go : (x < y) ⊎ ((x ≡ y) × Precedes p q) → (Precedes p q → slice_cmp nat_cmp p q ≡ Less) → slice_cmp nat_cmp (x ∷ p) (y ∷ q) ≡ Less
    go (inl a) f = rw (sym (nat_cmp_is x y Less a)) refl
    go (inr a) f = rw (sym (nat_cmp_is x y Equal a.0)) (f a.1)

pub equal_same : (p q : List ℕ) → slice_cmp nat_cmp p q ≡ Equal → p ≡ q
equal_same p q h = exact_bytes p q h

pub same_equal : (p : List ℕ) → slice_cmp nat_cmp p p ≡ Equal
same_equal [] = refl
same_equal (x ∷ p) = rw (sym (nat_cmp_is x x Equal refl)) (same_equal p)

-- an earlier path stands no higher before a third
rises : (p q r : List ℕ) (o : Ordering) → slice_cmp nat_cmp q r ≡ o → slice_cmp nat_cmp p q ≡ Less → ordering_index (slice_cmp nat_cmp p r) ≤ ordering_index o
rises p q r Less e h = rw (IsTotalOrder.trans nat_list_cmp_total p q r h e) (omega arith)
rises p q r Equal e h = rw (subst (λ z. slice_cmp nat_cmp p z ≡ Less) (equal_same q r e) h) (omega arith)
rises p q r Greater e h = go (slice_cmp nat_cmp p r)
  where
    go : (o : Ordering) → ordering_index o ≤ ordering_index Greater
    go Less = omega arith
    go Equal = omega arith
    go Greater = omega arith

pub same_path_is : (p q : List ℕ) → same_path p q ≡ true → p ≡ q
same_path_is [] [] e = refl
same_path_is [] (y ∷ ys) e = cc
same_path_is (x ∷ xs) [] e = cc
same_path_is (x ∷ xs) (y ∷ ys) e = go (eqb_tells x y) (same_path_is xs ys)
  where
    go : ((eqb x y ≡ true) × (x ≡ y)) ⊎ ((eqb x y ≡ false) × (x ≢ y)) → (same_path xs ys ≡ true → xs ≡ ys) → x ∷ xs ≡ y ∷ ys
    go (inl h) f = let z : (eqb x y && same_path xs ys) ≡ true = e in let w : (true && same_path xs ys) ≡ true = rw h.0 at z in rw (h.1, f w)
    go (inr h) f = let z : (eqb x y && same_path xs ys) ≡ true = e in let w : (false && same_path xs ys) ≡ true = rw h.0 at z in cc

pub same_path_refl : (p : List ℕ) → same_path p p ≡ true
same_path_refl [] = refl
same_path_refl (x ∷ xs) = rw (eq-eqb x x refl) (same_path_refl xs)

pub same_path_not : (p q : List ℕ) → p ≢ q → same_path p q ≡ false
same_path_not p q n = go (same_path p q) refl
  where
    go : (b : Bool) → same_path p q ≡ b → b ≡ false
    go true e = absurd (n (same_path_is p q e))
    go false e = refl

-- the keys of the elements are paths that rise along the list
abbrev pub KeysRise : {R : Type 0} → (R → List ℕ) → List R → Type 0
KeysRise {R} key rs = (i j : ℕ) (d : R) → i < j → j < length rs → Precedes (key (slice_index_or rs i d)) (key (slice_index_or rs j d))

module _ {R : Type 0} (key : R → List ℕ) (rs : List R) (p : List ℕ) where
  -- they rise before each path
  keys_rise : KeysRise key rs → IsNonDecreasingBy (λ r. ordering_index (slice_cmp nat_cmp (key r) p)) rs
  keys_rise h i j d l m = go (cases_lt i j)
    where
      go : (i < j) ⊎ (j ≤ i) → ordering_index (slice_cmp nat_cmp (key (slice_index_or rs i d)) p) ≤ ordering_index (slice_cmp nat_cmp (key (slice_index_or rs j d)) p)
      go (inl a) = rises (key (slice_index_or rs i d)) (key (slice_index_or rs j d)) p (slice_cmp nat_cmp (key (slice_index_or rs j d)) p) refl (precedes_less (key (slice_index_or rs i d)) (key (slice_index_or rs j d)) (h i j d a m))
      go (inr a) = let e : i ≡ j = omega arith in subst (λ k. ordering_index (slice_cmp nat_cmp (key (slice_index_or rs i d)) p) ≤ ordering_index (slice_cmp nat_cmp (key (slice_index_or rs k d)) p)) e (omega arith)

  no_key : (i : ℕ) → IsPartitionPoint (λ r. slice_cmp nat_cmp (key r) p ≡ Less) (λ r. slice_cmp nat_cmp (key r) p ≡ Greater) rs i → (r : R) → Contains rs r → key r ≢ p
  no_key i h r c e = go (cases_lt c.0 i)
    where
      same : slice_cmp nat_cmp (key (slice_index_or rs c.0 r)) p ≡ Equal
      same = rw (c.2, e) (same_equal p)

      go : (c.0 < i) ⊎ (i ≤ c.0) → ⊥
      go (inl a) = let z : slice_cmp nat_cmp (key (slice_index_or rs c.0 r)) p ≡ Less = h.0 c.0 r (omega arith) a in less_equal (sym z ∙ same)
      go (inr a) = let z : slice_cmp nat_cmp (key (slice_index_or rs c.0 r)) p ≡ Greater = h.1 c.0 r a c.1 in greater_equal (sym z ∙ same)

  -- what a search by halves answers
  pub key_found : (r : Result ℕ ℕ) → IsSearchInRange r (length rs) → IsBinarySearchResult (λ y. slice_cmp nat_cmp (key y) p) rs r → IfOk r (λ i. (i < length rs) × HoldsAt (λ y. key y ≡ p) rs i)
  key_found (Ok i) b h = (b, λ d. equal_same (key (slice_index_or rs i d)) p (h d))
  key_found (Err i) b h = tt

  pub key_absent : (r : Result ℕ ℕ) → KeysRise key rs → IsBinarySearchResult (λ y. slice_cmp nat_cmp (key y) p) rs r → IfErr r (λ _. (x : R) → Contains rs x → key x ≢ p)
  key_absent (Ok i) o h = tt
  key_absent (Err i) o h = no_key i (h (keys_rise o))

each_at : {R : Type 0} (f : R → Entry) (P : Entry → Type 0) (rs : List R) (j : ℕ) (d : R) → Each P (map f rs) → j < length rs → P (f (slice_index_or rs j d))
each_at f P [] j d h l = absurd (omega arith)
each_at f P (r ∷ rs) zero d h l = h.0
each_at f P (r ∷ rs) (suc j) d h l = each_at f P rs j d h.1 (omega arith)

pub ordered_at : {R : Type 0} (f : R → Entry) (rs : List R) (i j : ℕ) (d : R) → InPathOrder (map f rs) → i < j → j < length rs → Precedes (f (slice_index_or rs i d)).path (f (slice_index_or rs j d)).path
ordered_at f [] i j d h l m = absurd (omega arith)
ordered_at f (r ∷ rs) i zero d h l m = absurd (omega arith)
ordered_at f (r ∷ rs) zero (suc j) d h l m = each_at f (λ x. Precedes (f r).path x.path) rs j d h.0 (omega arith)
ordered_at f (r ∷ rs) (suc i) (suc j) d h l m = ordered_at f rs i j d h.1 (omega arith) (omega arith)

-- the same of records in path order
pub search_rises : {R : Type 0} (f : R → Entry) (rs : List R) (p : List ℕ) → InPathOrder (map f rs) → IsNonDecreasingBy (λ r. ordering_index (slice_cmp nat_cmp (f r).path p)) rs
search_rises f rs p h = keys_rise (λ r. (f r).path) rs p (λ i j d. ordered_at f rs i j d h)

pub search_found : {R : Type 0} (f : R → Entry) (rs : List R) (p : List ℕ) (r : Result ℕ ℕ) → IsSearchInRange r (length rs) → IsBinarySearchResult (λ y. slice_cmp nat_cmp (f y).path p) rs r → IfOk r (λ i. (i < length rs) × HoldsAt (λ y. (f y).path ≡ p) rs i)
search_found f rs p r b h = key_found (λ y. (f y).path) rs p r b h

pub search_absent : {R : Type 0} (f : R → Entry) (rs : List R) (p : List ℕ) (r : Result ℕ ℕ) → InPathOrder (map f rs) → IsBinarySearchResult (λ y. slice_cmp nat_cmp (f y).path p) rs r → IfErr r (λ _. (x : R) → Contains rs x → (f x).path ≢ p)
search_absent f rs p r o h = key_absent (λ y. (f y).path) rs p r (λ i j d. ordered_at f rs i j d o) h

precedes_greater : (p q : List ℕ) → Precedes q p → slice_cmp nat_cmp p q ≡ Greater
precedes_greater p q h = IsTotalOrder.antisymm nat_list_cmp_total p q ∙ ap ordering_reverse (precedes_less q p h)

-- of two paths one stands before the other, or they are the same
pub cases_path : (p q : List ℕ) → Precedes p q ⊎ ((p ≡ q) ⊎ Precedes q p)
cases_path p q = go (path_lt p q) (told p q)
  where
    go : (b : Bool) → Told p q b → Precedes p q ⊎ ((p ≡ q) ⊎ Precedes q p)
    go true h = inl h
    go false h = inr h

less_greater : Less ≡ Greater → ⊥
less_greater e = cc

-- what the comparison of two lists tells of the order of paths
pub compare-less : (p q : List ℕ) → (slice_cmp nat_cmp p q ≡ Less) ↔ Precedes p q
compare-less p q = (λ e. go e (cases_path p q), precedes_less p q)
  where
    go : slice_cmp nat_cmp p q ≡ Less → Precedes p q ⊎ ((p ≡ q) ⊎ Precedes q p) → Precedes p q
    go e (inl h) = h
    go e (inr (inl s)) = absurd (less_equal (sym e ∙ ap (slice_cmp nat_cmp p) (sym s) ∙ same_equal p))
    go e (inr (inr h)) = absurd (less_greater (sym e ∙ precedes_greater p q h))

pub compare-equal : (p q : List ℕ) → (slice_cmp nat_cmp p q ≡ Equal) ↔ (p ≡ q)
compare-equal p q = (equal_same p q, λ s. ap (slice_cmp nat_cmp p) (sym s) ∙ same_equal p)

pub compare-greater : (p q : List ℕ) → (slice_cmp nat_cmp p q ≡ Greater) ↔ Precedes q p
compare-greater p q = (λ e. go e (cases_path p q), precedes_greater p q)
  where
    go : slice_cmp nat_cmp p q ≡ Greater → Precedes p q ⊎ ((p ≡ q) ⊎ Precedes q p) → Precedes q p
    go e (inl h) = absurd (less_greater (sym (precedes_less p q h) ∙ e))
    go e (inr (inl s)) = absurd (greater_equal (sym e ∙ ap (slice_cmp nat_cmp p) (sym s) ∙ same_equal p))
    go e (inr (inr h)) = h

-- the same of an answer that is known to be the comparison's
pub answers-less : (o : Ordering) (p q : List ℕ) → o ≡ slice_cmp nat_cmp p q → (o ≡ Less) ↔ Precedes p q
answers-less o p q e = subst (λ z. (z ≡ Less) ↔ Precedes p q) (sym e) (compare-less p q)

pub answers-equal : (o : Ordering) (p q : List ℕ) → o ≡ slice_cmp nat_cmp p q → (o ≡ Equal) ↔ (p ≡ q)
answers-equal o p q e = subst (λ z. (z ≡ Equal) ↔ (p ≡ q)) (sym e) (compare-equal p q)

pub answers-greater : (o : Ordering) (p q : List ℕ) → o ≡ slice_cmp nat_cmp p q → (o ≡ Greater) ↔ Precedes q p
answers-greater o p q e = subst (λ z. (z ≡ Greater) ↔ Precedes q p) (sym e) (compare-greater p q)
