-- Where a slot is put in place of another, and where one is added: the slots stand for the threads among which the same is done.
use Rattle.std.proofs.Common.{◌≡◌, ◌≢◌, ℕ, zero, suc, ◌+◌, ◌<◌, ◌≤◌, List, [], ◌∷◌, length, map, inl, inr, ◌⊎◌, refl, sym, ◌∙◌, ap, subst, arith, Bool, true, false, if◌then◌else◌}
use Rattle.std.specs.Prelude.{not, slice_index_or, slice_set}
use Rattle.std.specs.Ordering.{nat_cmp, is_lt}
use Rattle.std.specs.Cmp.Lexicographic.{slice_cmp}
use Rattle.std.specs.List.{AllByRecursion, insert}
use Rattle.std.specs.List.Sorted.{IsPartitionedBy, IsPartitionPoint}
use Rattle.std.proofs.lemmas.Bool.{cases_lt}
use Rattle.priml_syntax.specs.Paths.{Precedes, same_path, path_lt}
use Rattle.priml_syntax.specs.Tree.{Tree}
use Rattle.priml_syntax.proofs.Orders.{Told, told, compare-less, compare-equal, compare-greater, irreflexive, transitive, same_path_is, same_path_refl, same_path_not}
use Rattle.core_steps.specs.declared.slot.Slot.{Slot}
use Rattle.core_steps.specs.Config.{Thread, put, added}
use Rattle.core_steps.specs.Configs.{SlotFields, read_slot, SlotsRise}
use Rattle.core_steps.specs.Inside.Configs.{slot_added, slot_put}
use Rattle.core_steps.proofs.Searched.{each_rises, rise_at, same_within}
use Rattle.core_steps.proofs.Slots.{Stands, AllStand, path_stands}
use Rattle.core_steps.proofs.Threads.{each_if}

-- whether the slot stays before one of that path
abbrev pub stays_before : List ℕ → Slot → Bool
stays_before p y = not (is_lt (slice_cmp nat_cmp p y.local.path))

lt_same : (p q : List ℕ) → is_lt (slice_cmp nat_cmp p q) ≡ path_lt p q
lt_same p q = go (path_lt p q) (told p q)
  where
    go : (b : Bool) → Told p q b → is_lt (slice_cmp nat_cmp p q) ≡ b
    go true h = ap is_lt ((compare-less p q).1 h)
    go false (inl h) = ap is_lt ((compare-equal p q).1 h)
    go false (inr h) = ap is_lt ((compare-greater p q).1 h)

stays : (p q : List ℕ) → not (is_lt (slice_cmp nat_cmp p q)) ≡ true → Precedes p q → ⊥
stays p q e h = let z : not true ≡ true = subst (λ o. not (is_lt o) ≡ true) ((compare-less p q).1 h) e in absurd (cc)

stays_from : (p q : List ℕ) → (Precedes p q → ⊥) → not (is_lt (slice_cmp nat_cmp p q)) ≡ true
stays_from p q n = ap not (lt_same p q) ∙ go (path_lt p q) (told p q)
  where
    go : (b : Bool) → Told p q b → not b ≡ true
    go true h = absurd (n h)
    go false h = refl

pub stay_first : (xs : List Slot) (p : List ℕ) → SlotsRise (map read_slot xs) → IsPartitionedBy (stays_before p) xs
stay_first xs p h i j d l m e = stays_from p (slice_index_or xs i d).local.path (λ k. go (cases_lt i j) k)
  where
    go : (i < j) ⊎ (j ≤ i) → Precedes p (slice_index_or xs i d).local.path → ⊥
    go (inl a) k = stays p (slice_index_or xs j d).local.path e (transitive p (slice_index_or xs i d).local.path (slice_index_or xs j d).local.path k (rise_at xs h i j d a m))
    go (inr a) k = let s : i ≡ j = omega (arith, l, a) in stays p (slice_index_or xs j d).local.path e (subst (λ n. Precedes p (slice_index_or xs n d).local.path) s k)

before_not : (p q : List ℕ) → not (is_lt (slice_cmp nat_cmp p q)) ≡ true → path_lt p q ≡ false
before_not p q e = go (path_lt p q) (ap not (sym (lt_same p q)) ∙ e)
  where
    go : (b : Bool) → not b ≡ true → b ≡ false
    go true h = absurd (cc)
    go false h = refl

before_is : (p q : List ℕ) → not (is_lt (slice_cmp nat_cmp p q)) ≡ false → path_lt p q ≡ true
before_is p q e = go (path_lt p q) (ap not (sym (lt_same p q)) ∙ e)
  where
    go : (b : Bool) → not b ≡ false → b ≡ true
    go true h = refl
    go false h = absurd (cc)

pub slot_placed : (xs : List Slot) (p : List ℕ) (i : ℕ) → i ≤ length xs → IsPartitionPoint (λ y. stays_before p y ≡ true) (λ y. stays_before p y ≡ false) xs i → (s : Slot) → s.local.path ≡ p → map read_slot (insert xs i s) ≡ slot_added (read_slot s) (map read_slot xs)
slot_placed [] p zero l h s e = refl
slot_placed [] p (suc i) l h s e = absurd (omega (arith, l))
slot_placed (x ∷ xs) p zero l h s e =
    let lt : path_lt s.local.path x.local.path ≡ true = subst (λ q. path_lt q x.local.path ≡ true) (sym e) (before_is p x.local.path (h.1 0 x (omega arith) (omega arith))) in
    rw lt refl
slot_placed (x ∷ xs) p (suc i) l h s e =
    let lt : path_lt s.local.path x.local.path ≡ false = subst (λ q. path_lt q x.local.path ≡ false) (sym e) (before_not p x.local.path (h.0 0 x (omega arith) (omega arith))) in
    let r : map read_slot (insert xs i s) ≡ slot_added (read_slot s) (map read_slot xs) = slot_placed xs p i (omega (arith, l)) ((λ k d a b. h.0 (suc k) d (omega arith) (omega (arith, b))), (λ k d a b. h.1 (suc k) d (omega (arith, a)) (omega (arith, b)))) s e in
    ap (λ ys. read_slot x ∷ ys) r ∙ sym (chosen lt)
  where
    chosen : path_lt s.local.path x.local.path ≡ false → slot_added (read_slot s) (read_slot x ∷ map read_slot xs) ≡ read_slot x ∷ slot_added (read_slot s) (map read_slot xs)
    chosen lt = rw lt refl

lt_tells : (p q : List ℕ) → is_lt (slice_cmp nat_cmp p q) ≡ true → Precedes p q
lt_tells p q e = subst (Told p q) (sym (lt_same p q) ∙ e) (told p q)

-- behind the last one
pub last_placed : (xs : List Slot) (p : List ℕ) (k : ℕ) (x : Slot) → SlotsRise (map read_slot xs) → k + 1 ≡ length xs → x ≡ slice_index_or xs k x → is_lt (slice_cmp nat_cmp x.local.path p) ≡ true → (s : Slot) → s.local.path ≡ p → map read_slot (insert xs (length xs) s) ≡ slot_added (read_slot s) (map read_slot xs)
last_placed xs p k x h n at lt = slot_placed xs p (length xs) (omega arith) ((λ j d a b. stays_from p (slice_index_or xs j d).local.path (λ z. irreflexive p (transitive p (slice_index_or xs j d).local.path p z (before j d b (cases_lt j k))))), (λ j d a b. absurd (omega (arith, a, b))))
  where
    last : (d : Slot) → Precedes (slice_index_or xs k d).local.path p
    last d = subst (λ (y : Slot). Precedes y.local.path p) (at ∙ same_within xs k x d (omega (arith, n))) (lt_tells x.local.path p lt)

    before : (j : ℕ) (d : Slot) → j < length xs → (j < k) ⊎ (k ≤ j) → Precedes (slice_index_or xs j d).local.path p
    before j d b (inl a) = transitive (slice_index_or xs j d).local.path (slice_index_or xs k d).local.path p (rise_at xs h j k d a (omega (arith, n))) (last d)
    before j d b (inr a) = let e : k ≡ j = omega (arith, n, a, b) in subst (λ i. Precedes (slice_index_or xs i d).local.path p) e (last d)

-- the slot at an index, in place of which another of its path is put
put_first : (s x : SlotFields) (ss : List SlotFields) → x.local.path ≡ s.local.path → slot_put s (x ∷ ss) ≡ s ∷ ss
put_first s x ss e = rw (subst (λ q. same_path x.local.path q ≡ true) e (same_path_refl x.local.path)) refl

put_behind : (s x : SlotFields) (ss : List SlotFields) → x.local.path ≢ s.local.path → slot_put s (x ∷ ss) ≡ x ∷ slot_put s ss
put_behind s x ss n = rw (same_path_not x.local.path s.local.path n) refl

pub slot_set : (xs : List Slot) (i : ℕ) (d y : Slot) → SlotsRise (map read_slot xs) → i < length xs → (slice_index_or xs i d).local.path ≡ y.local.path → map read_slot (slice_set xs i y) ≡ slot_put (read_slot y) (map read_slot xs)
slot_set [] i d y h l e = absurd (omega (arith, l))
slot_set (x ∷ xs) zero d y h l e = sym (put_first (read_slot y) (read_slot x) (map read_slot xs) e)
slot_set (x ∷ xs) (suc i) d y h l e =
    let before : Precedes x.local.path y.local.path = subst (Precedes x.local.path) e (each_rises x.local.path xs i d h.0 (omega (arith, l))) in
    ap (λ ys. read_slot x ∷ ys) (slot_set xs i d y h.1 (omega (arith, l)) e) ∙ sym (put_behind (read_slot y) (read_slot x) (map read_slot xs) (λ s. irreflexive y.local.path (subst (λ q. Precedes q y.local.path) s before)))

pub slot_kept : (xs : List Slot) (i : ℕ) (d y : Slot) → i < length xs → read_slot y ≡ read_slot (slice_index_or xs i d) → map read_slot (slice_set xs i y) ≡ map read_slot xs
slot_kept [] i d y l e = absurd (omega (arith, l))
slot_kept (x ∷ xs) zero d y l e = ap (λ z. z ∷ map read_slot xs) e
slot_kept (x ∷ xs) (suc i) d y l e = ap (λ ys. read_slot x ∷ ys) (slot_kept xs i d y (omega (arith, l)) e)

-- the order of paths stays
each_put : (q : List ℕ) (s : SlotFields) (ss : List SlotFields) → AllByRecursion (λ x. Precedes q x.local.path) ss → AllByRecursion (λ x. Precedes q x.local.path) (slot_put s ss)
each_put q s [] a = tt
each_put q s (x ∷ ss) a = go (same_path x.local.path s.local.path) refl (each_put q s ss a.1)
  where
    go : (b : Bool) → same_path x.local.path s.local.path ≡ b → AllByRecursion (λ y. Precedes q y.local.path) (slot_put s ss) → AllByRecursion (λ y. Precedes q y.local.path) (if b then s ∷ ss else x ∷ slot_put s ss)
    go true e h = (subst (Precedes q) (same_path_is x.local.path s.local.path e) a.0, a.1)
    go false e h = (a.0, h)

pub put_rises : (s : SlotFields) (ss : List SlotFields) → SlotsRise ss → SlotsRise (slot_put s ss)
put_rises s [] h = tt
put_rises s (x ∷ ss) h = go (same_path x.local.path s.local.path) refl (put_rises s ss h.1) (each_put x.local.path s ss h.0)
  where
    go : (b : Bool) → same_path x.local.path s.local.path ≡ b → SlotsRise (slot_put s ss) → AllByRecursion (λ y. Precedes x.local.path y.local.path) (slot_put s ss) → SlotsRise (if b then s ∷ ss else x ∷ slot_put s ss)
    go true e k a = (subst (λ q. AllByRecursion (λ y. Precedes q y.local.path) ss) (same_path_is x.local.path s.local.path e) h.0, h.1)
    go false e k a = (a, k)

-- what holds of the slots and of the new one
pub put_each : (P : SlotFields → Type 0) (s : SlotFields) (ss : List SlotFields) → P s → AllByRecursion P ss → AllByRecursion P (slot_put s ss)
put_each P s [] h a = tt
put_each P s (x ∷ ss) h a = each_if P (same_path x.local.path s.local.path) (s ∷ ss) (x ∷ slot_put s ss) (h, a.1) (a.0, put_each P s ss h a.1)

pub added_each : (P : SlotFields → Type 0) (s : SlotFields) (ss : List SlotFields) → P s → AllByRecursion P ss → AllByRecursion P (slot_added s ss)
added_each P s [] h a = (h, tt)
added_each P s (x ∷ ss) h a = each_if P (path_lt s.local.path x.local.path) (s ∷ x ∷ ss) (x ∷ slot_added s ss) (h, a) (a.0, added_each P s ss h a.1)

-- and they stand for the threads
pub put_stands : (p : Tree) (s : SlotFields) (u : Thread) (ss : List SlotFields) (ts : List Thread) → Stands p s u → AllStand p ss ts → AllStand p (slot_put s ss) (put u ts)
put_stands p s u [] [] h a = tt
put_stands p s u [] (t ∷ ts) h a = absurd a
put_stands p s u (x ∷ ss) [] h a = absurd a
put_stands p s u (x ∷ ss) (t ∷ ts) h a =
    subst (λ q. AllStand p (if same_path x.local.path s.local.path then s ∷ ss else x ∷ slot_put s ss) (if same_path q u.state.path then u ∷ ts else t ∷ put u ts)) (path_stands p x t a.0)
    (subst (λ q. AllStand p (if same_path x.local.path s.local.path then s ∷ ss else x ∷ slot_put s ss) (if same_path x.local.path q then u ∷ ts else t ∷ put u ts)) (path_stands p s u h)
    (go (same_path x.local.path s.local.path) (put_stands p s u ss ts h a.1)))
  where
    go : (b : Bool) → AllStand p (slot_put s ss) (put u ts) → AllStand p (if b then s ∷ ss else x ∷ slot_put s ss) (if b then u ∷ ts else t ∷ put u ts)
    go true k = (h, a.1)
    go false k = (a.0, k)

pub added_stands : (p : Tree) (s : SlotFields) (u : Thread) (ss : List SlotFields) (ts : List Thread) → Stands p s u → AllStand p ss ts → AllStand p (slot_added s ss) (added u ts)
added_stands p s u [] [] h a = (h, tt)
added_stands p s u [] (t ∷ ts) h a = absurd a
added_stands p s u (x ∷ ss) [] h a = absurd a
added_stands p s u (x ∷ ss) (t ∷ ts) h a =
    subst (λ q. AllStand p (if path_lt s.local.path x.local.path then s ∷ x ∷ ss else x ∷ slot_added s ss) (if path_lt q t.state.path then u ∷ t ∷ ts else t ∷ added u ts)) (path_stands p s u h)
    (subst (λ q. AllStand p (if path_lt s.local.path x.local.path then s ∷ x ∷ ss else x ∷ slot_added s ss) (if path_lt s.local.path q then u ∷ t ∷ ts else t ∷ added u ts)) (path_stands p x t a.0)
    (go (path_lt s.local.path x.local.path) (added_stands p s u ss ts h a.1)))
  where
    go : (b : Bool) → AllStand p (slot_added s ss) (added u ts) → AllStand p (if b then s ∷ x ∷ ss else x ∷ slot_added s ss) (if b then u ∷ t ∷ ts else t ∷ added u ts)
    go true k = (h, a)
    go false k = (a.0, k)
