use Rattle.std.proofs.Common.{◌≡◌, ◌+◌, ◌≤◌, ◌++◌, length, drop, vec_len, vec_capacity}
use Rattle.cost_graph.proofs.frontier.note.Given as goal

abbrev pub invariant-loop-vertex : goal.invariant-loop-vertex
invariant-loop-vertex l =
    record {
      items : l.ran.items ++ drop l.vertex-index l.vertices.items ≡ l.fn.ran.items ++ l.vertices.items;
      room : vec_len l.ran + length (drop l.vertex-index l.vertices.items) ≤ vec_capacity l.ran;
    }
