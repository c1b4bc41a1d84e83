-- Lists of threads: which thread a path finds in them, their order, and their counts, as threads are put and added.
use Rattle.std.proofs.Common.{◌≡◌, ◌≢◌, ℕ, ◌+◌, List, [], ◌∷◌, Some, None, length, ◌⊎◌, inl, inr, refl, sym, ◌∙◌, ap, subst, arith, Bool, true, false, if◌then◌else◌}
use Rattle.std.specs.List.{AllByRecursion}
use Rattle.std.proofs.lemmas.Option.{same_Some, none-some}
use Rattle.priml_syntax.specs.Paths.{same_path, path_lt, Precedes}
use Rattle.priml_syntax.proofs.Orders.{irreflexive, transitive, Told, told, same_path_is, same_path_refl, same_path_not}
use Rattle.core_steps.specs.Steps.{outcome_in}
use Rattle.core_steps.specs.Config.{Thread, thread_by_path, put, added}
use Rattle.core_steps.specs.Determined.{steps_of, one_live, unended}

-- what holds of each element may be weakened
pub all_map : {X : Type 0} {P Q : X → Type 0} (xs : List X) → ((x : X) → P x → Q x) → AllByRecursion P xs → AllByRecursion Q xs
all_map [] f a = tt
all_map (x ∷ xs) f a = (f x a.0, all_map xs f a.1)

-- what holds of the elements of both lists holds of those of the one that is chosen
pub each_if : {X : Type 0} (P : X → Type 0) (b : Bool) (xs ys : List X) → AllByRecursion P xs → AllByRecursion P ys → AllByRecursion P (if b then xs else ys)
each_if P true xs ys h k = h
each_if P false xs ys h k = k

-- in the order of paths, no path twice
abbrev pub InOrder : List Thread → Type 0
InOrder [] = Unit {0}
InOrder (t ∷ ts) = AllByRecursion (λ x. Precedes t.state.path x.state.path) ts × InOrder ts

-- two paths are the same, or not
pub same_or_not : (p q : List ℕ) → (p ≡ q) ⊎ (p ≢ q)
same_or_not p q = go (same_path p q) refl
  where
    go : (b : Bool) → same_path p q ≡ b → (p ≡ q) ⊎ (p ≢ q)
    go true e = inl (same_path_is p q e)
    go false e = inr (λ s. let z : same_path p q ≡ true = rw s (same_path_refl q) in let w : true ≡ false = sym z ∙ e in cc)

-- the head where it has the path, else what is found behind it
pub found_first : (x : Thread) (ts : List Thread) (p : List ℕ) → x.state.path ≡ p → thread_by_path (x ∷ ts) p ≡ Some x
found_first x ts p e = let z : same_path x.state.path p ≡ true = subst (λ q. same_path x.state.path q ≡ true) e (same_path_refl x.state.path) in rw z refl

pub found_behind : (x : Thread) (ts : List Thread) (p : List ℕ) → x.state.path ≢ p → thread_by_path (x ∷ ts) p ≡ thread_by_path ts p
found_behind x ts p n = rw (same_path_not x.state.path p n) refl

-- the thread that a path finds has it
pub found_path : (ts : List Thread) (p : List ℕ) (t : Thread) → thread_by_path ts p ≡ Some t → t.state.path ≡ p
found_path [] p t e = absurd (none-some t e)
found_path (x ∷ ts) p t e = elim (same_or_not x.state.path p) [
  | inl s ↦ subst (λ z. z.state.path ≡ p) (same_Some x t (sym (found_first x ts p s) ∙ e)) s
  | inr n ↦ found_path ts p t (sym (found_behind x ts p n) ∙ e)
]

-- what holds of each thread holds of those that are found
pub each_found : (P : Thread → Type 0) (ts : List Thread) (p : List ℕ) (t : Thread) → AllByRecursion P ts → thread_by_path ts p ≡ Some t → P t
each_found P [] p t a e = absurd (none-some t e)
each_found P (x ∷ ts) p t a e = elim (same_or_not x.state.path p) [
  | inl s ↦ subst P (same_Some x t (sym (found_first x ts p s) ∙ e)) a.0
  | inr n ↦ each_found P ts p t a.1 (sym (found_behind x ts p n) ∙ e)
]

-- a thread behind the head is found behind it, where the head stands before each
pub found_later : (x : Thread) (ts : List Thread) (p : List ℕ) (t : Thread) → AllByRecursion (λ y. Precedes x.state.path y.state.path) ts → thread_by_path ts p ≡ Some t → thread_by_path (x ∷ ts) p ≡ Some t
found_later x ts p t a e =
    let l : Precedes x.state.path p = subst (Precedes x.state.path) (found_path ts p t e) (each_found (λ y. Precedes x.state.path y.state.path) ts p t a e) in
    found_behind x ts p (λ s. irreflexive p (subst (λ z. Precedes z p) s l)) ∙ e

-- and, in a list in order, what holds of each thread that is found holds of each
pub found_each : (P : Thread → Type 0) (ts : List Thread) → InOrder ts → ((p : List ℕ) (t : Thread) → thread_by_path ts p ≡ Some t → P t) → AllByRecursion P ts
found_each P [] o f = tt
found_each P (x ∷ ts) o f = (f x.state.path x (found_first x ts x.state.path refl), found_each P ts o.1 (λ p t e. f p t (found_later x ts p t o.0 e)))

-- the thread that is put is found by its path, and the others as before
pub put_found : (u t : Thread) (ts : List Thread) → thread_by_path ts u.state.path ≡ Some t → thread_by_path (put u ts) u.state.path ≡ Some u
put_found u t [] e = absurd (none-some t e)
put_found u t (x ∷ ts) e = go (same_path x.state.path u.state.path) refl (put_found u t ts) e
  where
    go : (b : Bool) → same_path x.state.path u.state.path ≡ b → (thread_by_path ts u.state.path ≡ Some t → thread_by_path (put u ts) u.state.path ≡ Some u) →
        (if b then Some x else thread_by_path ts u.state.path) ≡ Some t → thread_by_path (if b then u ∷ ts else x ∷ put u ts) u.state.path ≡ Some u
    go true q f h = found_first u ts u.state.path refl
    go false q f h = let z : thread_by_path (x ∷ put u ts) u.state.path ≡ thread_by_path (put u ts) u.state.path = rw q refl in z ∙ f h

pub put_others : (u : Thread) (ts : List Thread) (q : List ℕ) → q ≢ u.state.path → thread_by_path (put u ts) q ≡ thread_by_path ts q
put_others u [] q n = refl
put_others u (x ∷ ts) q n = go (same_path x.state.path u.state.path) refl (put_others u ts q n)
  where
    go : (b : Bool) → same_path x.state.path u.state.path ≡ b → thread_by_path (put u ts) q ≡ thread_by_path ts q → thread_by_path (if b then u ∷ ts else x ∷ put u ts) q ≡ thread_by_path (x ∷ ts) q
    go true e h = let s : x.state.path ≡ u.state.path = same_path_is x.state.path u.state.path e in
        found_behind u ts q (λ z. n (sym z)) ∙ sym (found_behind x ts q (λ z. n (sym z ∙ s)))
    go false e h = elim (same_or_not x.state.path q) [ inl s ↦ found_first x (put u ts) q s ∙ sym (found_first x ts q s) | inr m ↦ found_behind x (put u ts) q m ∙ (h ∙ sym (found_behind x ts q m)) ]

-- the thread that is added is found by its path where there was none, and the others as before
pub added_found : (u : Thread) (ts : List Thread) → thread_by_path ts u.state.path ≡ None → thread_by_path (added u ts) u.state.path ≡ Some u
added_found u [] e = found_first u [] u.state.path refl
added_found u (x ∷ ts) e = go (path_lt u.state.path x.state.path) (same_or_not x.state.path u.state.path) (added_found u ts)
  where
    go : (b : Bool) → (x.state.path ≡ u.state.path) ⊎ (x.state.path ≢ u.state.path) → (thread_by_path ts u.state.path ≡ None → thread_by_path (added u ts) u.state.path ≡ Some u) →
        thread_by_path (if b then u ∷ x ∷ ts else x ∷ added u ts) u.state.path ≡ Some u
    go true d f = found_first u (x ∷ ts) u.state.path refl
    go false (inl s) f = absurd (none-some x (sym e ∙ found_first x ts u.state.path s))
    go false (inr n) f = found_behind x (added u ts) u.state.path n ∙ f (sym (found_behind x ts u.state.path n) ∙ e)

pub added_others : (u : Thread) (ts : List Thread) (q : List ℕ) → q ≢ u.state.path → thread_by_path (added u ts) q ≡ thread_by_path ts q
added_others u [] q n = found_behind u [] q (λ z. n (sym z))
added_others u (x ∷ ts) q n = go (path_lt u.state.path x.state.path) (added_others u ts q n)
  where
    go : (b : Bool) → thread_by_path (added u ts) q ≡ thread_by_path ts q → thread_by_path (if b then u ∷ x ∷ ts else x ∷ added u ts) q ≡ thread_by_path (x ∷ ts) q
    go true h = found_behind u (x ∷ ts) q (λ z. n (sym z))
    go false h = elim (same_or_not x.state.path q) [ inl s ↦ found_first x (added u ts) q s ∙ sym (found_first x ts q s) | inr m ↦ found_behind x (added u ts) q m ∙ (h ∙ sym (found_behind x ts q m)) ]

-- the order stays
each_put : (P : List ℕ → Type 0) (u : Thread) (ts : List Thread) → AllByRecursion (λ y. P y.state.path) ts → AllByRecursion (λ y. P y.state.path) (put u ts)
each_put P u [] a = tt
each_put P u (x ∷ ts) a = go (same_path x.state.path u.state.path) refl (each_put P u ts a.1)
  where
    go : (b : Bool) → same_path x.state.path u.state.path ≡ b → AllByRecursion (λ y. P y.state.path) (put u ts) → AllByRecursion (λ y. P y.state.path) (if b then u ∷ ts else x ∷ put u ts)
    go true q h = (subst P (same_path_is x.state.path u.state.path q) a.0, a.1)
    go false q h = (a.0, h)

pub put_in_order : (u : Thread) (ts : List Thread) → InOrder ts → InOrder (put u ts)
put_in_order u [] s = tt
put_in_order u (x ∷ ts) s = go (same_path x.state.path u.state.path) refl (put_in_order u ts s.1) (each_put (Precedes x.state.path) u ts s.0)
  where
    go : (b : Bool) → same_path x.state.path u.state.path ≡ b → InOrder (put u ts) → AllByRecursion (λ y. Precedes x.state.path y.state.path) (put u ts) → InOrder (if b then u ∷ ts else x ∷ put u ts)
    go true q h k = (subst (λ p. AllByRecursion (λ y. Precedes p y.state.path) ts) (same_path_is x.state.path u.state.path q) s.0, s.1)
    go false q h k = (k, h)

each_added : (P : Thread → Type 0) (u : Thread) (ts : List Thread) → P u → AllByRecursion P ts → AllByRecursion P (added u ts)
each_added P u [] p a = (p, tt)
each_added P u (x ∷ ts) p a = each_if P (path_lt u.state.path x.state.path) (u ∷ x ∷ ts) (x ∷ added u ts) (p, a) (a.0, each_added P u ts p a.1)

pub added_in_order : (u : Thread) (ts : List Thread) → thread_by_path ts u.state.path ≡ None → InOrder ts → InOrder (added u ts)
added_in_order u [] e s = (tt, tt)
added_in_order u (x ∷ ts) e s = go (path_lt u.state.path x.state.path) (told u.state.path x.state.path) (same_or_not x.state.path u.state.path) (λ z. added_in_order u ts z s.1)
  where
    go : (b : Bool) → Told u.state.path x.state.path b → (x.state.path ≡ u.state.path) ⊎ (x.state.path ≢ u.state.path) → (thread_by_path ts u.state.path ≡ None → InOrder (added u ts)) →
        InOrder (if b then u ∷ x ∷ ts else x ∷ added u ts)
    go true h d f = ((h, all_map ts (λ y l. transitive u.state.path x.state.path y.state.path h l) s.0), s)
    go false h (inl q) f = absurd (none-some x (sym e ∙ found_first x ts u.state.path q))
    go false (inl q) (inr n) f = absurd (n (sym q))
    go false (inr l) (inr n) f = (each_added (λ y. Precedes x.state.path y.state.path) u ts l s.0, f (sym (found_behind x ts u.state.path n) ∙ e))

-- a sum over the threads of what each counts
abbrev pub sum_of : (Thread → ℕ) → List Thread → ℕ
sum_of f [] = 0
sum_of f (t ∷ ts) = f t + sum_of f ts

pub sum_put : (f : Thread → ℕ) (u t : Thread) (ts : List Thread) → thread_by_path ts u.state.path ≡ Some t → sum_of f (put u ts) + f t ≡ sum_of f ts + f u
sum_put f u t [] e = absurd (none-some t e)
sum_put f u t (x ∷ ts) e = go (same_path x.state.path u.state.path) (sum_put f u t ts) e
  where
    go : (b : Bool) → (thread_by_path ts u.state.path ≡ Some t → sum_of f (put u ts) + f t ≡ sum_of f ts + f u) → (if b then Some x else thread_by_path ts u.state.path) ≡ Some t →
        sum_of f (if b then u ∷ ts else x ∷ put u ts) + f t ≡ f x + sum_of f ts + f u
    go true g h = let q : f x ≡ f t = ap f (same_Some x t h) in omega (arith, q)
    go false g h = let q : sum_of f (put u ts) + f t ≡ sum_of f ts + f u = g h in omega (arith, q)

pub sum_added : (f : Thread → ℕ) (u : Thread) (ts : List Thread) → sum_of f (added u ts) ≡ f u + sum_of f ts
sum_added f u [] = refl
sum_added f u (x ∷ ts) = go (path_lt u.state.path x.state.path) (sum_added f u ts)
  where
    go : (b : Bool) → sum_of f (added u ts) ≡ f u + sum_of f ts → sum_of f (if b then u ∷ x ∷ ts else x ∷ added u ts) ≡ f u + (f x + sum_of f ts)
    go true h = refl
    go false h = omega (arith, h)

-- the number of steps, and that of threads that have not ended, are such sums
pub steps_sum : (ts : List Thread) → steps_of ts ≡ sum_of (λ t. length t.events) ts
steps_sum [] = refl
steps_sum (t ∷ ts) = ap (λ n. length t.events + n) (steps_sum ts)

pub unended_sum : (ts : List Thread) → unended ts ≡ sum_of (λ t. one_live (outcome_in t.state.phase)) ts
unended_sum [] = refl
unended_sum (t ∷ ts) = ap (λ n. one_live (outcome_in t.state.phase) + n) (unended_sum ts)
