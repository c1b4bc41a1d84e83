-- The row of a thread from its parts.
use Rattle.std.proofs.Common.{◌≡◌, ℕ, ◌+◌, ◌-◌, ◌*◌, ◌/◌, ◌<◌, ◌≤◌, List, [], ◌∷◌, ◌++◌, length, get_or, refl, sym, ap, ◌∙◌, subst, inl, inr, arith}
use Rattle.std.proofs.lemmas.Bool.{cases_lt}
use Rattle.std.proofs.lemmas.List.{length-append}
use Rattle.std.proofs.Math.ListN.{get_or-append}
use Rattle.std.proofs.Math.Seq.{get_or-append_seam}
use Rattle.priority_order.specs.Order.{IsLawful}
use Rattle.cost_graph.specs.Graph.{CostGraph, thread_total, parents_at, first_vertex, last_vertex, IsGraph, IsWellFormed, IsVertexBelow}
use Rattle.prompt_checker.specs.Schedule.{IsPrompt}
use Rattle.span_bound.specs.Work.{IsWork, IsSpan}
use Rattle.response_report.specs.declared.row.Row.{Row}
use Rattle.response_report.specs.Inside.Places.{ArePlaces, IsRelease}
use Rattle.response_report.specs.Response.{IsResponse, IsRow}
use Rattle.response_report.proofs.Places.{response_is, last_place, last_stands}
use Rattle.response_report.proofs.Tokens.{IsBounded, are_bounded, in_order, response_bound}

module _ (g : CostGraph) (pairs : List (ℕ × ℕ)) (cores : ℕ) (steps : List (List ℕ)) (t : ℕ) (places : List ℕ) (from work span : ℕ)
    (ok : IsGraph g) (lawful : IsLawful pairs) (lt : t < thread_total g) (well : IsWellFormed g pairs) (prompt : IsPrompt g (IsVertexBelow g pairs) cores steps)
    (are : ArePlaces steps places) (release : IsRelease places (parents_at g (first_vertex g t)) from) (w : IsWork g pairs t work) (sp : IsSpan g t span) where
  known : IsBounded g pairs cores steps t
  known = are_bounded g pairs cores steps t ok lawful lt (well t lt) prompt

  at : get_or places (last_vertex g t) 0 ≡ (last_stands g cores steps t places from ok lt prompt.valid are release).0 + 1
  at = last_place g cores steps t places from ok lt prompt.valid are release

  resp : IsResponse g steps t ((last_stands g cores steps t places from ok lt prompt.valid are release).0 - from + 1)
  resp = response_is g cores steps t places from ok lt prompt.valid are release

  low : from ≤ (last_stands g cores steps t places from ok lt prompt.valid are release).0
  low = in_order g pairs cores steps t known ((last_stands g cores steps t places from ok lt prompt.valid are release).0 - from + 1) (response_is g cores steps t places from ok lt prompt.valid are release) work w span sp

  -- the thread's last vertex runs no earlier than its first can
  pub release_low : from ≤ get_or places (last_vertex g t) 0
  release_low = omega (arith, low, at)

  time_is : (last_stands g cores steps t places from ok lt prompt.valid are release).0 - from + 1 ≡ get_or places (last_vertex g t) 0 - from
  time_is = omega (arith, low, at)

  pub row_is : (row : Row) → row ≡ record { thread = t; response = get_or places (last_vertex g t) 0 - from; work = work; span = span; bound = (work + (cores - 1) * span) / cores } → IsRow g pairs cores steps t row
  row_is row e =
      let response = subst (IsResponse g steps t) time_is resp in
      subst (IsRow g pairs cores steps t) (sym e) (record {
        thread = refl;
        response = response;
        work = w;
        span = sp;
        bound = refl;
        holds = response_bound g pairs cores steps t known (get_or places (last_vertex g t) 0 - from) work span response w sp;
      })

-- one row more
pub rows_on : (P : ℕ → Row → Type 0) (now next : List Row) (row : Row) (t : ℕ) → length now ≡ t → next ≡ now ++ row ∷ [] → P t row
    → ((s : ℕ) (d : Row) → s < t → P s (get_or now s d)) → (s : ℕ) (d : Row) → s < t + 1 → P s (get_or next s d)
rows_on P now next row t long e new old s d s_lt =
    elim (cases_lt s t) [
      | inl early ↦ subst (P s) (sym (ap (λ l. get_or l s d) e ∙ get_or-append now (row ∷ []) d s (omega (arith, early, long)))) (old s d early)
      | inr late ↦
          let here : s ≡ length now = omega (arith, late, s_lt, long) in
          let is : get_or next s d ≡ row = ap (λ l. get_or l s d) e ∙ ap (λ n. get_or (now ++ row ∷ []) n d) here ∙ get_or-append_seam now row [] d in
          let same : t ≡ s = omega (arith, late, s_lt) in
          subst (P s) (sym is) (subst (λ n. P n row) same new)
    ]

pub rows_longer : (now next : List Row) (row : Row) (t : ℕ) → length now ≡ t → next ≡ now ++ row ∷ [] → length next ≡ t + 1
rows_longer now next row t long e = ap length e ∙ length-append now (row ∷ []) ∙ ap (λ n. n + 1) long
