use Rattle.std.specs.Prelude.{◌≡◌, IfOk}
use Rattle.cost_graph.specs.Text.{graph_lines}
use Rattle.priml.proofs.Chains.{ungraphed, graphed}
use Rattle.priml.proofs.Ordered.{over}
use Rattle.priml.proofs.commands.graph.graph.Goals as goal

pub returns-in_err-job : goal.returns-in_err-job
returns-in_err-job c = ungraphed _ _ _ _ _ c.from_residual.ensures.1 c.in_err-job.ensures.refused

pub graph_text-text-requires : goal.graph_text-text-requires
graph_text-text-requires c = (c.in_ok-job.ensures.sound _ c.order.ensures).priorities

pub returns : goal.returns
returns c =
    let text = over _ _ c.order.ensures (λ names pairs. IfOk c.graph_text-text.result (λ v. v.items ≡ graph_lines c.in_ok-job.graph names)) c.graph_text-text.ensures in
    graphed _ _ _ _ _ _ _ _ c.in_ok-job.ensures.ok (c.done.ensures.says _ text)
