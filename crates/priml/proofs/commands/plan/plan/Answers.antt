use Rattle.std.specs.Prelude.{ℕ, List, length}
use Rattle.priml_io.specs.Sections.{Sections}
use Rattle.priml_syntax.specs.Tree.{Tree, pairs_of}
use Rattle.priml_syntax.specs.Values.{Entry}
use Rattle.cost_graph.specs.Graph.{CostGraph}
use Rattle.prompt_checker.specs.Read.{steps_of}
use Rattle.prompt_checker.specs.Text.{schedule_text}
use Rattle.priml.specs.Chain.{Answer, ◌⇒◌, Says}
use Rattle.priml.specs.Commands.{WithGraph}
use Rattle.priml.specs.Layers as the
use Rattle.priml.specs.Inside.Reply.{Stops}
use Rattle.priml.proofs.Chains.{ungraphed, graphed, handed, behind_graph, stopped, passed}
use Rattle.priml.proofs.Ordered.{over}
use Rattle.priml.proofs.commands.plan.plan.Goals as goal

abbrev rest : ℕ → Sections → Tree → List Entry → CostGraph → Answer
rest cores s p rs g = the.plan (pairs_of p) (length p.names) g cores ⇒ λ steps. Says (schedule_text g steps)

pub returns-in_err-job : goal.returns-in_err-job
returns-in_err-job c = ungraphed _ _ _ _ _ c.from_residual.ensures.1 c.in_err-job.ensures.refused

pub plan-requires-clause-sound : goal.plan-requires-clause-sound
plan-requires-clause-sound c = c.in_ok-job.ensures.sound _ c.order-order.ensures

pub returns-in_err-schedule : goal.returns-in_err-schedule
returns-in_err-schedule c =
    let h = over _ _ c.order-order.ensures (λ names pairs. Stops (the.plan pairs (length names) c.in_ok-job.graph c.args.cores) c.in_err-schedule.field-0.0) c.in_err-schedule.ensures.plan in
    handed (WithGraph c.args.most c.args.input.now (rest c.args.cores)) _ _ c.from_residual-in_err-schedule.ensures.1 (behind_graph _ _ (rest c.args.cores) _ _ _ _ _ c.in_ok-job.ensures.ok (stopped _ _ _ h))

pub returns : goal.returns
returns c =
    let h = over _ _ c.order-order.ensures (λ names pairs. (the.plan pairs (length names) c.in_ok-job.graph c.args.cores).makes (steps_of c.in_ok-schedule.schedule)) c.in_ok-schedule.ensures.plan in
    graphed _ _ (rest c.args.cores) _ _ _ _ _ c.in_ok-job.ensures.ok (passed _ _ (steps_of c.in_ok-schedule.schedule) _ h (c.done.ensures.says _ c.plan_text-text.ensures))
