-- The response of a thread t, and its bound. Steps are counted from 0 here, which changes no difference of steps.
use Rattle.std.specs.Prelude.{◌≡◌, ℕ, ◌+◌, ◌-◌, ◌*◌, ◌/◌, ◌<◌, ◌≤◌, List, length, get_or}
use Rattle.std.specs.List.{Contains}
use Rattle.cost_graph.specs.Graph.{CostGraph, Edge, thread_total, first_vertex, last_vertex}
use Rattle.prompt_checker.specs.Schedule.{vertices_before, step_at}
use Rattle.span_bound.specs.Work.{IsWork, IsSpan}
use Rattle.response_report.specs.declared.row.Row.{Row}

abbrev pub ParentsBefore : CostGraph → List (List ℕ) → ℕ → ℕ → Type 0
ParentsBefore g steps i v = (u : ℕ) → Edge g u v → Contains (vertices_before steps i) u

-- the first step at which all parents of v are in earlier ones
pub record IsReleased (g : CostGraph) (steps : List (List ℕ)) (v i : ℕ) : Type 0 where
  pub parents : ParentsBefore g steps i v
  pub least : (j : ℕ) → ParentsBefore g steps j v → i ≤ j

-- the steps from the one at which the thread's first vertex is released to that of its last, both counted
pub record IsResponse (g : CostGraph) (steps : List (List ℕ)) (t time : ℕ) : Type 0 where
  pub from : ℕ
  pub to : ℕ
  pub released : IsReleased g steps (first_vertex g t) from
  pub bounds : to < length steps
  pub runs : Contains (step_at steps to) (last_vertex g t)
  pub is : time ≡ to - from + 1

-- on so many cores the response times the cores is at most the work plus the span for each core but one
abbrev pub BoundsResponse : CostGraph → List (ℕ × ℕ) → ℕ → List (List ℕ) → ℕ → Type 0
BoundsResponse g pairs cores steps t =
    (time work span : ℕ) → IsResponse g steps t time → IsWork g pairs t work → IsSpan g t span → cores * time ≤ work + (cores - 1) * span

-- the row of thread t
pub record IsRow (g : CostGraph) (pairs : List (ℕ × ℕ)) (cores : ℕ) (steps : List (List ℕ)) (t : ℕ) (row : Row) : Type 0 where
  pub thread : row.thread ≡ t
  pub response : IsResponse g steps t row.response
  pub work : IsWork g pairs t row.work
  pub span : IsSpan g t row.span
  pub bound : row.bound ≡ (row.work + (cores - 1) * row.span) / cores
  pub holds : cores * row.response ≤ row.work + (cores - 1) * row.span

-- one row for each thread, in order
pub record AreRows (g : CostGraph) (pairs : List (ℕ × ℕ)) (cores : ℕ) (steps : List (List ℕ)) (rows : List Row) : Type 0 where
  pub each_thread : length rows ≡ thread_total g
  pub are : (t : ℕ) (d : Row) → t < thread_total g → IsRow g pairs cores steps t (get_or rows t d)
