use Rattle.std.proofs.Common.{◌≡◌, ◌<◌, length, subst, arith}
use Rattle.std.specs.List.{All}
use Rattle.cost_graph.specs.declared.graph.Thread.{Thread}
use Rattle.worked_schedules.proofs.Worked.{one_well_formed}
use Rattle.worked_schedules.proofs.tests.sizes.has_one_priority.Goals as goal

pub returns : goal.returns
returns c = λ e.
    let s = c.args.scene.now in
    let one : length s.order.names ≡ 1 = grind arith in
    one_well_formed s.graph s.order.pairs c.vertex_count-count.ensures.kept (subst (λ n. All (λ (t : Thread). t.priority < n) s.graph.threads) one s.priorities)
