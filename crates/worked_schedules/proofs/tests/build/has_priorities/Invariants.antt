use Rattle.std.proofs.Common.{ℕ, ◌<◌, length}
use Rattle.cost_graph.specs.Graph.{thread_at}
use Rattle.worked_schedules.proofs.tests.build.has_priorities.Given as goal

abbrev pub invariant-loop-t : goal.invariant-loop-t
invariant-loop-t l = (t : ℕ) → t < l.t → (thread_at l.graph t).priority < length l.order.names
