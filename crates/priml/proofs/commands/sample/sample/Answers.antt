use Rattle.std.proofs.Common.{[], length, map, sym, subst}
use Rattle.priml_syntax.specs.Read.{read_record}
use Rattle.prompt_checker.specs.Read.{steps_of}
use Rattle.source_maker.specs.Text.{made_text}
use Rattle.priml.specs.Commands.{Sampled}
use Rattle.priml.specs.Layers as the
use Rattle.priml.specs.Inside.Reply.{Stops, StopsAs}
use Rattle.priml.proofs.Chains.{handed}
use Rattle.priml.proofs.Ordered.{over}
use Rattle.priml.proofs.Samples.{not_run, no_graph, no_plan, sampled, order_of}
use Rattle.priml.proofs.Sound.{sound_run}
use Rattle.priml.proofs.commands.sample.sample.Goals as goal

pub returns-in_err-job : goal.returns-in_err-job
returns-in_err-job g c = let A = Sampled c.args.size c.args.cores c.args.most in handed A _ _ c.from_residual.ensures.1 (subst (StopsAs A) (sym c.in_err-job.ensures.memory) tt)

pub returns-in_err-records : goal.returns-in_err-records
returns-in_err-records g c =
    let j = c.in_ok-job.ensures.job in
    handed (Sampled c.args.size c.args.cores c.args.most) _ _ c.from_residual-in_err-records.ensures.1
    (not_run c.args.size c.args.cores c.args.most j.0 j.1 _ (subst (λ job. Stops (the.run job c.args.most) c.in_err-records.field-0.0) j.3 c.in_err-records.ensures.records))

pub returns-in_err-graph : goal.returns-in_err-graph
returns-in_err-graph g c =
    let j = c.in_ok-job.ensures.job in
    let ran = subst (λ job. (the.run job c.args.most).makes (map read_record c.in_ok-records.records)) j.3 c.in_ok-records.ensures.records in
    handed (Sampled c.args.size c.args.cores c.args.most) _ _ c.from_residual-in_err-graph.ensures.1 (no_graph c.args.size c.args.cores c.args.most j.0 j.1 _ ran _ c.in_err-graph.ensures.graph)

pub plan-requires-clause-sound : goal.plan-requires-clause-sound
plan-requires-clause-sound g c =
    let j = c.in_ok-job.ensures.job in
    let ran = subst (λ job. (the.run job c.args.most).makes (map read_record c.in_ok-records.records)) j.3 c.in_ok-records.ensures.records in
    sound_run (made_text c.args.size) j.0 [] j.1 j.2 c.args.most _ ran _ c.in_ok-graph.ensures.graph _ (order_of c.in_ok-job.job _ j.3 _ c.order.ensures)

pub returns-in_err-schedule : goal.returns-in_err-schedule
returns-in_err-schedule g c =
    let j = c.in_ok-job.ensures.job in
    let ran = subst (λ job. (the.run job c.args.most).makes (map read_record c.in_ok-records.records)) j.3 c.in_ok-records.ensures.records in
    let stops = over _ _ (order_of c.in_ok-job.job _ j.3 _ c.order.ensures) (λ names pairs. Stops (the.plan pairs (length names) c.in_ok-graph.graph c.args.cores) c.in_err-schedule.field-0.0) c.in_err-schedule.ensures.plan in
    handed (Sampled c.args.size c.args.cores c.args.most) _ _ c.from_residual-in_err-schedule.ensures.1 (no_plan c.args.size c.args.cores c.args.most j.0 j.1 _ ran _ c.in_ok-graph.ensures.graph _ stops)

pub returns : goal.returns
returns g c =
    let j = c.in_ok-job.ensures.job in
    let ran = subst (λ job. (the.run job c.args.most).makes (map read_record c.in_ok-records.records)) j.3 c.in_ok-records.ensures.records in
    let plans = over _ _ (order_of c.in_ok-job.job _ j.3 _ c.order.ensures) (λ names pairs. (the.plan pairs (length names) c.in_ok-graph.graph c.args.cores).makes (steps_of c.in_ok-schedule.schedule)) c.in_ok-schedule.ensures.plan in
    sampled c.args.size c.args.cores c.args.most j.0 j.1 _ ran _ c.in_ok-graph.ensures.graph _ plans _ (c.done.ensures.says _ c.summary-text.ensures)
