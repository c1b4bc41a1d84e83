-- A graph has one list of rows under a prompt schedule.
use Rattle.std.proofs.Common.{◌≡◌, ℕ, ◌+◌, ◌-◌, ◌*◌, ◌/◌, ◌<◌, ◌≤◌, true, List, length, get_or, sym, ap, ◌∙◌, inl, inr, arith}
use Rattle.std.specs.Prelude.{nat_eq}
use Rattle.std.specs.List.{Contains, IsDistinct, concat}
use Rattle.std.specs.Set.{is_member}
use Rattle.std.proofs.lemmas.Bool.{cases_lt}
use Rattle.std.proofs.lemmas.List.{ext_get_or}
use Rattle.std.proofs.lemmas.Map.Made.{is_member-Decides, length-le_from_is_member}
use Rattle.std.proofs.lemmas.Cmp.{nat_eq_equiv}
use Rattle.cost_graph.specs.Graph.{CostGraph, thread_total, last_vertex}
use Rattle.cost_graph.proofs.Members.{decides_eq}
use Rattle.prompt_checker.specs.Schedule.{step_at}
use Rattle.span_bound.specs.Work.{IsCount, IsSpan}
use Rattle.response_report.specs.declared.row.Row.{Row}
use Rattle.response_report.specs.Response.{IsReleased, IsResponse, IsRow}
use Rattle.response_report.specs.Laws.{RowsAreOne}
use Rattle.response_report.proofs.Places.{apart}

count_le : (P : ℕ → Type 0) (m n : ℕ) → IsCount P m → IsCount P n → m ≤ n
count_le P m n x y =
    let kept : (q : ℕ) → is_member nat_eq x.members q ≡ true → is_member nat_eq y.members q ≡ true =
    λ q h. (is_member-Decides decides_eq y.members q).1 ((y.are q).0 ((x.are q).1 ((is_member-Decides decides_eq x.members q).0 h))) in
    omega (arith, length-le_from_is_member nat_eq_equiv x.members y.members x.once kept, x.is, y.is)

count_one : (P : ℕ → Type 0) (m n : ℕ) → IsCount P m → IsCount P n → m ≡ n
count_one P m n x y = omega (arith, count_le P m n x y, count_le P n m y x)

span_one : (g : CostGraph) (t m n : ℕ) → IsSpan g t m → IsSpan g t n → m ≡ n
span_one g t m n x y = omega (arith, x.is, y.is, x.greatest y.start y.rest y.path, y.greatest x.start x.rest x.path)

-- a vertex stands in one step alone
step_one : (steps : List (List ℕ)) (i j v : ℕ) → IsDistinct nat_eq (concat steps) → i < length steps → j < length steps → Contains (step_at steps i) v → Contains (step_at steps j) v → i ≡ j
step_one steps i j v once i_lt j_lt a b =
    elim (cases_lt i j) [
      | inl less ↦ absurd (apart steps i j v once less j_lt a b)
      | inr more ↦ elim (cases_lt j i) [
        | inl less ↦ absurd (apart steps j i v once less i_lt b a)
        | inr low ↦ omega (arith, more, low)
      ]
    ]

release_one : (g : CostGraph) (steps : List (List ℕ)) (v i j : ℕ) → IsReleased g steps v i → IsReleased g steps v j → i ≡ j
release_one g steps v i j x y = omega (arith, x.least j y.parents, y.least i x.parents)

response_one : (g : CostGraph) (steps : List (List ℕ)) (t m n : ℕ) → IsDistinct nat_eq (concat steps) → IsResponse g steps t m → IsResponse g steps t n → m ≡ n
response_one g steps t m n once x y =
    let from = release_one g steps _ x.from y.from x.released y.released in
    let to = step_one steps x.to y.to (last_vertex g t) once x.bounds y.bounds x.runs y.runs in
    omega (arith, x.is, y.is, from, to)

module _ (g : CostGraph) (pairs : List (ℕ × ℕ)) (cores : ℕ) (steps : List (List ℕ)) (once : IsDistinct nat_eq (concat steps)) where
  row_one : (t : ℕ) (a b : Row) → IsRow g pairs cores steps t a → IsRow g pairs cores steps t b → a ≡ b
  row_one t a b x y =
      let thread : a.thread ≡ b.thread = x.thread ∙ sym y.thread in
      let response : a.response ≡ b.response = response_one g steps t a.response b.response once x.response y.response in
      let work : a.work ≡ b.work = count_one _ a.work b.work x.work y.work in
      let span : a.span ≡ b.span = span_one g t a.span b.span x.span y.span in
      let bound : a.bound ≡ b.bound = x.bound ∙ ap (λ w. (w + (cores - 1) * a.span) / cores) work ∙ ap (λ s. (b.work + (cores - 1) * s) / cores) span ∙ sym y.bound in
      λ i. record { thread = thread i; response = response i; work = work i; span = span i; bound = bound i }

pub rows_one : RowsAreOne
rows_one g pairs cores steps prompt a b x y =
    let d : Row = record { thread = 0; response = 0; work = 0; span = 0; bound = 0 } in
    ext_get_or d a b (x.each_thread ∙ sym y.each_thread) (λ t lt.
    let t_lt : t < thread_total g = omega (arith, lt, x.each_thread) in
    row_one g pairs cores steps prompt.valid.once t (get_or a t d) (get_or b t d) (x.are t d t_lt) (y.are t d t_lt))
