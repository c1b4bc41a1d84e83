use Rattle.std.proofs.Common.{◌≡◌, ℕ, ◌<◌, take, length, get_or}
use Rattle.std.specs.List.{sum_by}
use Rattle.cost_graph.specs.declared.graph.Thread.{Thread}
use Rattle.cost_graph.proofs.build.firsts_of.Given as goal

abbrev pub invariant-loop-thread : goal.invariant-loop-thread
invariant-loop-thread l =
    record {
      sum : l.next ≡ sum_by (λ (x : Thread). x.vertices) (take l.thread-index l.threads.items);
      long : length l.firsts.items ≡ l.thread-index;
      are : (t : ℕ) → t < l.thread-index → get_or l.firsts.items t 0 ≡ sum_by (λ (x : Thread). x.vertices) (take t l.threads.items);
    }
