use Rattle.std.proofs.Common.{◌≡◌, ◌+◌, ◌≤◌, ◌++◌, length, drop, vec_len, vec_capacity}
use Rattle.std.specs.List.{sum_by}
use Rattle.cost_graph.specs.Graph.{children_at}
use Rattle.cost_graph.specs.Marks.{IsSeen}
use Rattle.cost_graph.specs.Inside.Marks.{freed_by, marks_after}
use Rattle.cost_graph.proofs.marks.run_step.Given as goal

abbrev pub invariant-loop-vertex : goal.invariant-loop-vertex
invariant-loop-vertex l =
    record {
      watched : IsSeen l.graph l.marks.items l.seen.items;
      marked : marks_after l.marks.items (drop l.vertex-index l.step.items) ≡ marks_after l.fn.marks.items l.step.items;
      room : vec_len l.freed + sum_by (λ v. length (children_at l.graph v)) (drop l.vertex-index l.step.items) ≤ vec_capacity l.freed;
      freed : l.freed.items ++ freed_by l.graph l.marks.items (drop l.vertex-index l.step.items) ≡ freed_by l.graph l.fn.marks.items l.step.items;
    }
