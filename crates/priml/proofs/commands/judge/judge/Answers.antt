use Rattle.std.proofs.Common.{sym, subst}
use Rattle.std.specs.Prelude.{ℕ, List, map}
use Rattle.priml_syntax.specs.Read.{read_program, read_record}
use Rattle.priml_syntax.specs.Tree.{Tree, pairs_of}
use Rattle.priml_syntax.specs.Values.{Entry}
use Rattle.priml_io.specs.Sections.{Sections}
use Rattle.cost_graph.specs.Graph.{CostGraph, IsVertexBelow}
use Rattle.prompt_checker.specs.Read.{steps_of}
use Rattle.prompt_checker.specs.Schedule.{IsPrompt}
use Rattle.priml.specs.Chain.{Answer, ◌⇒◌}
use Rattle.priml.specs.Commands.{WithGraph, Reports}
use Rattle.priml.specs.Layers as the
use Rattle.priml.specs.Inside.Prefixes.{IsSound}
use Rattle.priml.specs.Inside.Reply.{Stops, Replies}
use Rattle.priml.proofs.Chains.{ungraphed, graphed, handed, behind_graph, stopped, stopped_behind, passed}
use Rattle.priml.proofs.Ordered.{over}
use Rattle.priml.proofs.commands.judge.judge.Goals as goal

abbrev rest : ℕ → Sections → Tree → List Entry → CostGraph → Answer
rest cores s p rs g = the.schedule g s.schedule ⇒ λ steps. the.prompt (pairs_of p) g cores steps ⇒ λ _. Reports p rs g cores steps

pub returns-in_err-sections : goal.returns-in_err-sections
returns-in_err-sections c = ungraphed _ _ _ _ _ c.from_residual.ensures.1 c.in_err-sections.ensures.refused

pub returns-in_err-schedule : goal.returns-in_err-schedule
returns-in_err-schedule c =
    handed (WithGraph c.args.most c.args.input.now (rest c.args.cores)) _ _ c.from_residual-in_err-schedule.ensures.1 (behind_graph _ _ (rest c.args.cores) _ _ _ _ _ c.in_ok-sections.ensures.ok (stopped _ _ _ c.in_err-schedule.ensures.schedule))

pub prompt-requires-clause-sound : goal.prompt-requires-clause-sound
prompt-requires-clause-sound c = c.in_ok-sections.ensures.sound _ c.order-order.ensures

pub returns-in_err-judged : goal.returns-in_err-judged
returns-in_err-judged c =
    let steps = steps_of c.in_ok-schedule.schedule in
    let h = over _ _ c.order-order.ensures (λ names pairs. Stops (the.prompt pairs c.in_ok-sections.graph c.args.cores steps) c.in_err-judged.field-0.0) c.in_err-judged.ensures.prompt in
    handed (WithGraph c.args.most c.args.input.now (rest c.args.cores)) _ _ c.from_residual-in_err-judged.ensures.1
    (behind_graph _ _ (rest c.args.cores) _ _ _ _ _ c.in_ok-sections.ensures.ok (stopped_behind _ _ steps _ c.in_ok-schedule.ensures.schedule (stopped _ _ _ h)))

pub report-reply-requires-clause-sound : goal.report-reply-requires-clause-sound
report-reply-requires-clause-sound c = subst (λ g. IsSound g c.order-order.result.now) (sym c.in_ok-judged.ensures.same) (c.in_ok-sections.ensures.sound _ c.order-order.ensures)

pub report-reply-requires-clause-prompt : goal.report-reply-requires-clause-prompt
report-reply-requires-clause-prompt c =
    subst (λ g. IsPrompt g (IsVertexBelow g c.order-order.result.now.pairs) c.args.cores (steps_of c.in_ok-schedule.schedule)) (sym c.in_ok-judged.ensures.same) c.in_ok-judged.ensures.prompt

pub returns : goal.returns
returns c =
    let steps = steps_of c.in_ok-schedule.schedule in
    let h = over _ _ c.order-order.ensures (λ names pairs. (the.prompt pairs c.in_ok-sections.graph c.args.cores steps).makes tt) c.in_ok-judged.ensures.prompt in
    let reply = subst (λ g. Replies (Reports (read_program c.in_ok-sections.job.program) (map read_record c.in_ok-sections.records) g c.args.cores steps) c.report-reply.result) c.in_ok-judged.ensures.same (c.report-reply.ensures _ c.order-order.ensures) in
    graphed _ _ (rest c.args.cores) _ _ _ _ _ c.in_ok-sections.ensures.ok (passed _ _ steps _ c.in_ok-schedule.ensures.schedule (passed _ _ tt _ h reply))
