-- The table of lanes serves each task of its job.
use Rattle.std.proofs.Common.{◌≡◌, ℕ, ◌<◌, List, length, get_or, refl, sym, subst, arith}
use Rattle.std.proofs.lemmas.Option.{slice_get_read}
use Rattle.type_rules.specs.Jobs.{WithInputs}
use Rattle.core_steps.specs.Moves.{read_job}
use Rattle.task_state.specs.Tasks.{TaskFields, OfJob}
use Rattle.priority_deques.specs.Ends.{lane_count}
use Rattle.priority_deques.specs.Inside.Tables.{IsLaneTable}
use Rattle.priority_deques.specs.Tasks.{IsLaneOf}
use Rattle.priority_deques.proofs.Prios.{prio_in}

module _ (job : WithInputs) (table : List ℕ) (h : IsLaneTable job table) where
  table_in : (t : TaskFields) → OfJob (read_job job) t → t.local.prio < length table
  table_in t task = subst (λ n. t.local.prio < n) (sym h.long) (prio_in (read_job job) h.checked t task)

  table_at : (p k : ℕ) → p < length table → k ≡ get_or table p k → IsLaneOf (read_job job) p k × (k < lane_count job)
  table_at p k l e = h.each p k (slice_get_read table (length table) p k refl l e)

  -- the same of a job that is this one, at the place of the task's priority
  module _ (now : WithInputs) (same : job ≡ now) (t : TaskFields) (task : OfJob (read_job now) t) (p : ℕ) (is : p ≡ t.local.prio) where
    pub place_in : p < length table
    place_in = let l = table_in t (subst (λ (j : WithInputs). OfJob (read_job j) t) (sym same) task) in omega arith

    pub lane_at : (k : ℕ) → k ≡ get_or table p k → IsLaneOf (read_job now) t.local.prio k × (k < lane_count now)
    lane_at k e = subst (λ (z : WithInputs × ℕ). IsLaneOf (read_job z.0) z.1 k × (k < lane_count z.0)) (λ i. (same i, is i)) (table_at p k place_in e)
