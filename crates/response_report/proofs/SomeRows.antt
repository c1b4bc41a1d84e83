-- A well-formed graph has rows under a prompt schedule.
use Rattle.std.proofs.Common.{◌≡◌, ℕ, zero, suc, ◌+◌, ◌-◌, ◌*◌, ◌/◌, ◌<◌, ◌≤◌, ◌⊎◌, List, [], ◌∷◌, ◌++◌, length, take, get_or, refl, sym, ap, ◌∙◌, subst, inl, inr, arith}
use Rattle.std.specs.List.{concat, Contains}
use Rattle.std.proofs.lemmas.Bool.{cases_lt}
use Rattle.std.proofs.lemmas.List.{length-append, get_or-append-add}
use Rattle.std.proofs.lemmas.List.Elements.{Contains-append_left, Contains-append_right, Contains-append_cases, Contains-get_or}
use Rattle.std.proofs.Math.ListN.{get_or-append}
use Rattle.std.proofs.Math.Seq.{take-length, take-append-add}
use Rattle.priority_order.specs.Order.{IsLawful}
use Rattle.cost_graph.specs.Graph.{CostGraph, parents_at, thread_total, first_vertex, last_vertex, IsGraph, IsWellFormed, IsVertexBelow}
use Rattle.cost_graph.specs.Order.{IsTopological}
use Rattle.cost_graph.proofs.Ends.{last_below}
use Rattle.cost_graph.proofs.Members.{no_member, parents_seen}
use Rattle.prompt_checker.specs.Schedule.{vertices_before, step_at, IsValid, IsPrompt}
use Rattle.span_bound.proofs.SomeMeasure.{some_work, some_span}
use Rattle.response_report.specs.declared.row.Row.{Row}
use Rattle.response_report.specs.Response.{ParentsBefore, IsReleased, IsResponse, IsRow}
use Rattle.response_report.specs.Laws.{SomeRows}
use Rattle.response_report.proofs.Places.{stands_somewhere}
use Rattle.response_report.proofs.Timed.{rows_on, rows_longer}
use Rattle.response_report.proofs.Tokens.{are_bounded, response_bound}

-- where a vertex of all steps stands: its step, whose vertices before come before it
record IsPlaced (steps : List (List ℕ)) (i : ℕ) : Type 0 where
  step : ℕ
  within : step < length steps
  stands : Contains (step_at steps step) (get_or (concat steps) i 0)
  before : (u : ℕ) → Contains (vertices_before steps step) u → Contains (take i (concat steps)) u

placed : (steps : List (List ℕ)) (i : ℕ) → i < length (concat steps) → IsPlaced steps i
placed [] i lt = absurd (omega (arith, lt))
placed (s ∷ ss) i lt =
    elim (cases_lt i (length s)) [
      | inl early ↦ record {
        step = 0;
        within = omega arith;
        stands = subst (Contains s) (sym (get_or-append s (concat ss) 0 i early)) (Contains-get_or s i 0 early);
        before = λ u c. absurd (no_member u c);
      }
      | inr late ↦
          let k : ℕ = i - length s in
          let e : length s + k ≡ i = omega (arith, late) in
          let r = placed ss k (omega (arith, lt, late, length-append s (concat ss))) in
          record {
            step = suc r.step;
            within = omega (arith, r.within);
            stands = subst (λ n. Contains (step_at ss r.step) (get_or (s ++ concat ss) n 0)) e (subst (Contains (step_at ss r.step)) (sym (get_or-append-add s (concat ss) k 0)) r.stands);
            before = λ u c.
                subst (λ n. Contains (take n (s ++ concat ss)) u) e (subst (λ l. Contains l u) (sym (take-append-add s (concat ss) k)) (elim (Contains-append_cases s (vertices_before ss r.step) u c) [
                  | inl here ↦ Contains-append_left s (take k (concat ss)) u here
                  | inr later ↦ Contains-append_right s (take k (concat ss)) u (r.before u later)
                ]));
          }
    ]

module _ (g : CostGraph) (cores : ℕ) (steps : List (List ℕ)) (valid : IsValid g cores steps) where
  -- the vertices of a valid schedule, step by step, are in an order in which each stands after its parents
  steps_in_order : IsTopological g (concat steps)
  steps_in_order = record {
    all = valid.all;
    after = λ i u lt e. let p = placed steps i lt in p.before u (valid.after p.step (get_or (concat steps) i 0) p.within p.stands u e);
    once = valid.once;
  }

  first_with : (P : ℕ → Type 0) → ((i : ℕ) → P i ⊎ (P i → ⊥)) → (n : ℕ) → ((i : ℕ) × P i × ((j : ℕ) → P j → i ≤ j)) ⊎ ((j : ℕ) → P j → n ≤ j)
  first_with P tells zero = inr (λ j _. omega arith)
  first_with P tells (suc n) =
      elim (first_with P tells n) [
        | inl found ↦ inl found
        | inr none ↦ elim (tells n) [
          | inl here ↦ inl (n, here, none)
          | inr lacks ↦ inr (λ j h. elim (cases_lt n j) [
            | inl more ↦ omega (arith, more)
            | inr le ↦ (let least = none j h in let same : j ≡ n = omega (arith, le, least) in absurd (lacks (subst P same h)))
          ])
        ]
      ]

  parents_or_not : (v i : ℕ) → ParentsBefore g steps i v ⊎ (ParentsBefore g steps i v → ⊥)
  parents_or_not v i = elim (parents_seen (vertices_before steps i) (parents_at g v)) [ inl all ↦ inl all | inr p ↦ inr (λ h. p.2 (h p.0 p.1)) ]

  some_release : (v : ℕ) → IsGraph g → (i : ℕ) × IsReleased g steps v i
  some_release v ok =
      let all : ParentsBefore g steps (length steps) v = λ u e. subst (λ l. Contains l u) (sym (ap concat (take-length steps))) ((valid.all u).0 (ok.ends u v e)) in
      elim (first_with (λ i. ParentsBefore g steps i v) (parents_or_not v) (suc (length steps))) [
        | inl found ↦ (found.0, record { parents = found.1; least = found.2 })
        | inr none ↦ (let le = none (length steps) all in absurd (omega (arith, le)))
      ]

  some_response : (t : ℕ) → IsGraph g → t < thread_total g → (time : ℕ) × IsResponse g steps t time
  some_response t ok lt =
      let from = some_release (first_vertex g t) ok in
      let to = stands_somewhere steps (last_vertex g t) ((valid.all (last_vertex g t)).0 (last_below g t ok lt)) in
      (to.0 - from.0 + 1, record { from = from.0; to = to.0; released = from.1; bounds = to.1; runs = to.2; is = refl })

module _ (g : CostGraph) (pairs : List (ℕ × ℕ)) (cores : ℕ) (steps : List (List ℕ)) (ok : IsGraph g) (lawful : IsLawful pairs) (well : IsWellFormed g pairs) (prompt : IsPrompt g (IsVertexBelow g pairs) cores steps) where
  some_row : (t : ℕ) → t < thread_total g → (row : Row) × IsRow g pairs cores steps t row
  some_row t lt =
      let order = steps_in_order g cores steps prompt.valid in
      let time = some_response g cores steps prompt.valid t ok lt in
      let work = some_work g (concat steps) ok order t lt pairs in
      let span = some_span g (concat steps) ok order t lt in (
        record { thread = t; response = time.0; work = work.0; span = span.0; bound = (work.0 + (cores - 1) * span.0) / cores },
        record {
          thread = refl;
          response = time.1;
          work = work.1;
          span = span.1;
          bound = refl;
          holds = response_bound g pairs cores steps t (are_bounded g pairs cores steps t ok lawful lt (well t lt) prompt) time.0 work.0 span.0 time.1 work.1 span.1;
        },
      )

  record AreFirstRows (n : ℕ) (rows : List Row) : Type 0 where
    long : length rows ≡ n
    are : (t : ℕ) (d : Row) → t < n → IsRow g pairs cores steps t (get_or rows t d)

  rows_to : (n : ℕ) → n ≤ thread_total g → (rows : List Row) × AreFirstRows n rows
  rows_to zero le = ([], record { long = refl; are = λ t d lt. absurd (omega (arith, lt)) })
  rows_to (suc n) le =
      let now = rows_to n (omega (arith, le)) in
      let row = some_row n (omega (arith, le)) in
      let next : List Row = now.0 ++ row.0 ∷ [] in
      let same : n + 1 ≡ suc n = omega arith in (
        next,
        record {
          long = rows_longer now.0 next row.0 n now.1.long refl ∙ same;
          are = λ t d lt. rows_on (IsRow g pairs cores steps) now.0 next row.0 n now.1.long refl row.1 now.1.are t d (omega (arith, lt));
        },
      )

pub rows_some : SomeRows
rows_some g pairs cores steps ok lawful well prompt =
    let all = rows_to g pairs cores steps ok lawful well prompt (thread_total g) (omega arith) in
    (all.0, record { each_thread = all.1.long; are = all.1.are })
