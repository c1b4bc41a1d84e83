use Rattle.std.proofs.Common.{◌-◌, length, map}
use Rattle.cost_graph.specs.Graph.{vertex_total}
use Rattle.prompt_planner.proofs.Going.{IsGoing}
use Rattle.prompt_planner.proofs.planner.plan_by_lanes.Given as goal

abbrev pub invariant-steps : goal.invariant-steps
invariant-steps l = IsGoing l.graph l.lanes l.cores l.frontier l.ready.keys (map (λ s. s.items) l.steps.items)

abbrev pub decreases-steps : goal.decreases-steps
decreases-steps l = vertex_total l.graph - length l.frontier.ran
