-- The measures of several threads.
use Rattle.std.specs.Prelude.{◌≡◌, ℕ, ◌<◌, List, length, get_or}
use Rattle.span_bound.specs.declared.size.Measure.{Measure}
use Rattle.cost_graph.specs.Graph.{CostGraph}
use Rattle.span_bound.specs.Work.{IsMeasure}

-- the threads' measures, in turn
pub record AreMeasures (g : CostGraph) (pairs : List (ℕ × ℕ)) (threads : List ℕ) (measures : List Measure) : Type 0 where
  pub long : length measures ≡ length threads
  pub each : (i : ℕ) (d : Measure) → i < length threads → IsMeasure g pairs (get_or threads i 0) (get_or measures i d)
