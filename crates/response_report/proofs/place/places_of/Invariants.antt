use Rattle.std.proofs.Common.{◌≡◌, ℕ, ◌+◌, ◌<◌, length, get_or}
use Rattle.std.specs.List.{Contains}
use Rattle.cost_graph.specs.Graph.{vertex_total}
use Rattle.prompt_checker.specs.Read.{steps_of}
use Rattle.prompt_checker.specs.Schedule.{step_at}
use Rattle.response_report.proofs.place.places_of.Given as goal

abbrev pub invariant-loop-i : goal.invariant-loop-i
invariant-loop-i l =
    record {
      long : length l.places.items ≡ vertex_total l.graph;
      are : (j v : ℕ) → j < l.i → Contains (step_at (steps_of l.schedule) j) v → get_or l.places.items v 0 ≡ j + 1;
    }
