use Rattle.std.proofs.Common.{subst}
use Rattle.cost_graph.specs.Graph.{IsVertexBelow}
use Rattle.prompt_checker.specs.Read.{steps_of}
use Rattle.prompt_checker.specs.Verdict.{IsVerdict}
use Rattle.priml.proofs.FlawNames.{names_vertices}
use Rattle.priml.proofs.graphs.prompt.Goals as goal

pub flaw_refusal-requires : goal.flaw_refusal-requires
flaw_refusal-requires c =
    let o = c.args.order.now in
    let steps = steps_of c.args.schedule.now in
    names_vertices c.args.graph (IsVertexBelow c.args.graph o.pairs) c.args.cores steps c.requires.within c.in-Ok-Flaw.flaw
    (subst (IsVerdict c.args.graph (IsVertexBelow c.args.graph o.pairs) c.args.cores steps) c.in-Ok-Flaw.field-0-is c.in-Ok-Flaw.ensures.verdict)

pub returns-in-Ok-Flaw-clause-prompt : goal.returns-in-Ok-Flaw-clause-prompt
returns-in-Ok-Flaw-clause-prompt c = (c.in-Ok-Flaw.flaw, subst (IsVerdict c.args.graph (IsVertexBelow c.args.graph c.args.order.now.pairs) c.args.cores (steps_of c.args.schedule.now)) c.in-Ok-Flaw.field-0-is c.in-Ok-Flaw.ensures.verdict, c.flaw_refusal.ensures)
