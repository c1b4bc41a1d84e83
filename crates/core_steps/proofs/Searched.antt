-- What a search by halves among slots answers.
use Rattle.std.proofs.Common.{◌≡◌, ◌≢◌, ℕ, zero, suc, ◌<◌, List, [], ◌∷◌, Some, None, length, map, refl, sym, ◌∙◌, ap, subst, arith, true}
use Rattle.std.specs.Prelude.{Result, Ok, Err, IfOk, IfErr, slice_index_or}
use Rattle.std.specs.Ordering.{nat_cmp}
use Rattle.std.specs.Cmp.Lexicographic.{slice_cmp}
use Rattle.std.specs.List.{AllByRecursion, Contains, HoldsAt}
use Rattle.std.specs.List.Sorted.{IsSearchInRange, IsBinarySearchResult}
use Rattle.priml_syntax.specs.Paths.{Precedes, same_path}
use Rattle.priml_syntax.proofs.Orders.{KeysRise, key_found, key_absent, irreflexive, same_path_refl, same_path_not}
use Rattle.core_steps.specs.declared.slot.Slot.{Slot}
use Rattle.core_steps.specs.Configs.{SlotFields, read_slot, SlotsRise}
use Rattle.core_steps.specs.Inside.Configs.{slot_at, StandsAt}

pub each_rises : (q : List ℕ) (xs : List Slot) (j : ℕ) (d : Slot) → AllByRecursion (λ (s : SlotFields). Precedes q s.local.path) (map read_slot xs) → j < length xs → Precedes q (slice_index_or xs j d).local.path
each_rises q [] j d h l = absurd (omega (arith, l))
each_rises q (x ∷ xs) zero d h l = h.0
each_rises q (x ∷ xs) (suc j) d h l = each_rises q xs j d h.1 (omega (arith, l))

pub rise_at : (xs : List Slot) → SlotsRise (map read_slot xs) → KeysRise (λ (s : Slot). s.local.path) xs
rise_at [] h i j d l m = absurd (omega (arith, m))
rise_at (x ∷ xs) h i zero d l m = absurd (omega (arith, l))
rise_at (x ∷ xs) h zero (suc j) d l m = each_rises x.local.path xs j d h.0 (omega (arith, m))
rise_at (x ∷ xs) h (suc i) (suc j) d l m = rise_at xs h.1 i j d (omega (arith, l)) (omega (arith, m))

slot_first : (s : SlotFields) (ss : List SlotFields) (p : List ℕ) → s.local.path ≡ p → slot_at (s ∷ ss) p ≡ Some s
slot_first s ss p e = rw (subst (λ q. same_path s.local.path q ≡ true) e (same_path_refl s.local.path)) refl

slot_behind : (s : SlotFields) (ss : List SlotFields) (p : List ℕ) → s.local.path ≢ p → slot_at (s ∷ ss) p ≡ slot_at ss p
slot_behind s ss p n = rw (same_path_not s.local.path p n) refl

slot_here : (xs : List Slot) (p : List ℕ) (i : ℕ) (d : Slot) → SlotsRise (map read_slot xs) → i < length xs → (slice_index_or xs i d).local.path ≡ p → Some (read_slot (slice_index_or xs i d)) ≡ slot_at (map read_slot xs) p
slot_here [] p i d h l e = absurd (omega (arith, l))
slot_here (x ∷ xs) p zero d h l e = sym (slot_first (read_slot x) (map read_slot xs) p e)
slot_here (x ∷ xs) p (suc i) d h l e =
    slot_here xs p i d h.1 (omega (arith, l)) e ∙ sym (slot_behind (read_slot x) (map read_slot xs) p (λ s. irreflexive p (subst (λ q. Precedes q p) s (subst (Precedes x.local.path) e (each_rises x.local.path xs i d h.0 (omega (arith, l)))))))

-- the default does not matter within the list
pub same_within : (xs : List Slot) (i : ℕ) (d e : Slot) → i < length xs → slice_index_or xs i d ≡ slice_index_or xs i e
same_within [] i d e l = absurd (omega (arith, l))
same_within (x ∷ xs) zero d e l = refl
same_within (x ∷ xs) (suc i) d e l = same_within xs i d e (omega (arith, l))

-- the slot there is that of its path
pub stands_there : (xs : List Slot) (p : List ℕ) (i : ℕ) (s : Slot) → SlotsRise (map read_slot xs) → i < length xs → s ≡ slice_index_or xs i s → s.local.path ≡ p → StandsAt xs p i
stands_there xs p i s h l at e = (l, λ d. slot_here xs p i d h l (ap (λ (y : Slot). y.local.path) (same_within xs i d s l ∙ sym at) ∙ e))

-- the slot at an index, and its path
slot_there : (xs : List Slot) (i : ℕ) → i < length xs → (s : Slot) × (s ≡ slice_index_or xs i s)
slot_there [] i l = absurd (omega (arith, l))
slot_there (x ∷ xs) zero l = (x, refl)
slot_there (x ∷ xs) (suc i) l = slot_there xs i (omega (arith, l))

pub path_there : (xs : List Slot) (i : ℕ) → SlotsRise (map read_slot xs) → i < length xs → (p : List ℕ) × StandsAt xs p i
path_there xs i h l = let s = slot_there xs i l in (s.0.local.path, stands_there xs s.0.local.path i s.0 h l s.1 refl)

no_slot : (xs : List Slot) (p : List ℕ) → ((x : Slot) → Contains xs x → x.local.path ≢ p) → slot_at (map read_slot xs) p ≡ None
no_slot [] p f = refl
no_slot (x ∷ xs) p f = slot_behind (read_slot x) (map read_slot xs) p (f x (0, omega arith, refl)) ∙ no_slot xs p (λ y c. f y (suc c.0, omega (arith, c.1), c.2))

pub slot_found : (xs : List Slot) (p : List ℕ) (r : Result ℕ ℕ) → SlotsRise (map read_slot xs) → IsSearchInRange r (length xs) → IsBinarySearchResult (λ (s : Slot). slice_cmp nat_cmp s.local.path p) xs r → IfOk r (λ i. (i < length xs) × HoldsAt (λ (s : Slot). Some (read_slot s) ≡ slot_at (map read_slot xs) p) xs i)
slot_found xs p (Ok i) h b s = let k = key_found (λ (e : Slot). e.local.path) xs p (Ok i) b s in (k.0, λ d. slot_here xs p i d h k.0 (k.1 d))
slot_found xs p (Err i) h b s = tt

pub slot_absent : (xs : List Slot) (p : List ℕ) (r : Result ℕ ℕ) → SlotsRise (map read_slot xs) → IsBinarySearchResult (λ (s : Slot). slice_cmp nat_cmp s.local.path p) xs r → IfErr r (λ _. slot_at (map read_slot xs) p ≡ None)
slot_absent xs p (Ok i) h s = tt
slot_absent xs p (Err i) h s = no_slot xs p (key_absent (λ (e : Slot). e.local.path) xs p (Err i) (rise_at xs h) s)
