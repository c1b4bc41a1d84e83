use Rattle.std.proofs.Common.{◌≡◌, ◌+◌, ◌≤◌, ◌++◌, take, vec_len, vec_capacity}
use Rattle.std.specs.List.{filter}
use Rattle.cost_graph.specs.Marks.{IsSeen}
use Rattle.cost_graph.specs.Inside.Marks.{is_free}
use Rattle.cost_graph.proofs.marks.visit.Given as goal

abbrev pub invariant-loop-child : goal.invariant-loop-child
invariant-loop-child l =
    record {
      watched : IsSeen l.graph l.marks l.seen;
      freed : l.free.items ≡ l.initial.free.items ++ filter (is_free l.graph l.marks) (take l.child-index l.child-items);
      few : vec_len l.free ≤ vec_len l.initial.free + l.child-index;
      capacity : vec_capacity l.initial.free ≤ vec_capacity l.free;
    }
