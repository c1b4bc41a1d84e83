use Rattle.std.proofs.Common.{◌<◌}
use Rattle.std.specs.List.{All}
use Rattle.std.proofs.lemmas.Result.{IfOk-weaker}
use Rattle.cost_graph.specs.Graph.{vertex_total, IsVertexBelow}
use Rattle.prompt_checker.specs.Read.{steps_of}
use Rattle.prompt_checker.specs.Schedule.{IsPrompt}
use Rattle.worked_schedules.proofs.Worked.{all_within}
use Rattle.worked_schedules.proofs.tests.schedules.plan_of.Goals as goal

pub returns : goal.returns
returns c =
    let g = c.args.scene.now.graph in
    record {
      within =
          IfOk-weaker c.plan.result (λ s. IsPrompt g (IsVertexBelow g c.args.scene.now.order.pairs) c.args.cores (steps_of s)) (λ s. All (λ step. All (λ v. v < vertex_total g) step) (steps_of s))
          (λ s h. all_within (steps_of s) (vertex_total g) (λ v k. (h.valid.all v).1 k)) c.plan.ensures.prompt;
    }
