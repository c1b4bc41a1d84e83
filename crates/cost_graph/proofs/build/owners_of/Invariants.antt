use Rattle.std.proofs.Common.{◌≡◌, ℕ, ◌<◌, take, length, get_or, List}
use Rattle.std.specs.List.{sum_by}
use Rattle.cost_graph.specs.declared.graph.Thread.{Thread}
use Rattle.cost_graph.specs.Graph.{IsOwner}
use Rattle.cost_graph.proofs.build.owners_of.Given as goal

abbrev pub invariant-loop-t : goal.invariant-loop-t
invariant-loop-t l =
    record {
      long : length l.owners.items ≡ sum_by (λ (x : Thread). x.vertices) (take l.t l.threads.items);
      are : (parents : List (List ℕ)) (v : ℕ) → v < length l.owners.items → IsOwner (record { threads = l.threads.items; parents = parents }) v (get_or l.owners.items v 0);
    }
