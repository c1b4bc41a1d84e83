use Rattle.std.proofs.Common.{◌≡◌, replicate, []}
use Rattle.cost_graph.specs.View.{short_lists}
use Rattle.cost_graph.proofs.build.empty_lists.Given as goal

abbrev pub invariant-loop : goal.invariant-loop
invariant-loop l = short_lists l.all.items ≡ replicate l.counter []
