-- The seats of a board, joined one by one.
use Rattle.std.proofs.Common.{◌≡◌, ℕ, ◌+◌, List, [], ◌∷◌, ◌++◌, length, sym, refl, ap, subst, ⊎_elim, ◌⊎◌, inl, inr, arith}
use mathlib.Core.Option.{some}
use lib.ListN.{get_elem?}
use Rattle.atomic_table.proofs.Lists.{at_longer, at_last, at_snoc}
use Rattle.core_steps.specs.Config.{Thread}
use Rattle.task_state.specs.Sums.{total}
use Rattle.join_board.specs.Logs.{Each}
use Rattle.join_board.specs.Inside.Views.{both}
use Rattle.join_board.specs.Handles.{knows}
use Rattle.join_board.specs.Close.{Contains}
use Rattle.join_board.specs.Inside.Close.{Absorbed}
use Rattle.join_board.specs.Entries.{Entry}
use Rattle.join_board.specs.declared.owned.BoardSeat.{BoardSeat}
use Rattle.join_board.specs.declared.view.About.{About}
use Rattle.join_board.specs.declared.view.View.{View}
use Rattle.task_state.proofs.Sums.{total_append}
use Rattle.join_board.proofs.Calls.{at_behind}

module _ {A : Type 0} where
  pub front : (F : A → Type 0) (xs ys : List A) (x : A) → xs ≡ ys ++ x ∷ [] → Each F xs → Each F ys
  front F xs ys x is all j s at = all j s (subst (λ (z : List A). get_elem? z j ≡ some s) (sym is) (at_longer ys (x ∷ []) j s at))

  pub last : (F : A → Type 0) (xs ys : List A) (x : A) → xs ≡ ys ++ x ∷ [] → Each F xs → F x
  last F xs ys x is all = all (length ys) x (subst (λ (z : List A). get_elem? z (length ys) ≡ some x) (sym is) (at_last ys x (length ys) refl))

  pub total_snoc : (f : A → ℕ) (xs ys : List A) (x : A) → xs ≡ ys ++ x ∷ [] → total f xs ≡ total f ys + f x
  total_snoc f xs ys x is = let a = ap (total f) is in let b = total_append f ys (x ∷ []) in omega (arith, a, b)

pub absorbs_left : (v w : View) → Absorbed v (both v w)
absorbs_left v w = (omega arith, omega arith, omega arith, omega arith, λ i t e. (i, at_longer v.seen w.seen i t e))

pub absorbs_right : (v w : View) → Absorbed w (both v w)
absorbs_right v w = (omega arith, omega arith, omega arith, omega arith, λ i t e. at_behind v.seen w.seen i t e)

pub absorbed_on : (u v w : View) → Absorbed u v → Absorbed v w → Absorbed u w
absorbed_on u v w a b = (let x = a.0 in let y = b.0 in omega (arith, x, y), (let x = a.1 in let y = b.1 in omega (arith, x, y)), (let x = a.2 in let y = b.2 in omega (arith, x, y)), (let x = a.3 in let y = b.3 in omega (arith, x, y)), λ i t e. let m = a.4 i t e in b.4 m.0 t m.1)

-- one seat more was joined
pub gathered : (all xs ys : List BoardSeat) (x : BoardSeat) (v : View) → xs ≡ ys ++ x ∷ [] → ((j : ℕ) (s : BoardSeat) → get_elem? all j ≡ some s → (get_elem? xs j ≡ some s) ⊎ Absorbed (knows s) v)
    → (j : ℕ) (s : BoardSeat) → get_elem? all j ≡ some s → (get_elem? ys j ≡ some s) ⊎ Absorbed (knows s) (both v (knows x))
gathered all xs ys x v is before j s at = ⊎_elim
    (λ (h : get_elem? xs j ≡ some s). ⊎_elim (λ (g : get_elem? ys j ≡ some s). inl g) (λ (g : x ≡ s). inr (subst (λ (z : BoardSeat). Absorbed (knows z) (both v (knows x))) g (absorbs_right v (knows x)))) (at_snoc ys x s j (subst (λ (z : List BoardSeat). get_elem? z j ≡ some s) is h)))
    (λ (h : Absorbed (knows s) v). inr (absorbed_on (knows s) v (both v (knows x)) h (absorbs_left v (knows x)))) (before j s at)

pub contains_less : (key : About) (c : List Thread) (shards : List (List Entry)) (v w : View) → Absorbed v w → Contains key c shards w → Contains key c shards v
contains_less key c shards v w a h = ((let x = a.0 in let y = h.0 in omega (arith, x, y)), (λ i t e. let m = a.4 i t e in h.1 m.0 t m.1), (λ z. h.2 (let x = a.1 in omega (arith, x, z))), λ z. h.3 (let x = a.2 in omega (arith, x, z)))

pub each_snoc : {A : Type 0} (F : A → Type 0) (xs : List A) (x : A) → Each F xs → F x → Each F (xs ++ x ∷ [])
each_snoc F xs x all mine j s at = ⊎_elim (λ (h : get_elem? xs j ≡ some s). all j s h) (λ (h : x ≡ s). subst F h mine) (at_snoc xs x s j at)
