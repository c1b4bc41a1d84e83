use Rattle.std.proofs.Common.{subst, sym}
use Rattle.priml.specs.Commands.{Of}
use Rattle.priml.specs.Layers.{UsesWorkers}
use Rattle.priml.specs.Inside.Reply.{IsInRange, Replies}
use Rattle.priml.proofs.answer.answer.Goals as goal

pub returns-in-Check : goal.returns-in-Check
returns-in-Check c = subst (λ d. Replies (Of d c.args.input.now) c.check.result) (sym c.in-Check.is) c.check.ensures

pub returns-in-Serial : goal.returns-in-Serial
returns-in-Serial c = subst (λ d. Replies (Of d c.args.input.now) c.serial.result) (sym c.in-Serial.is) c.serial.ensures

pub graph-requires : goal.graph-requires
graph-requires c = subst IsInRange c.in-Graph.is c.requires.range

pub returns-in-Graph : goal.returns-in-Graph
returns-in-Graph c = subst (λ d. Replies (Of d c.args.input.now) c.graph.result) (sym c.in-Graph.is) c.graph.ensures

pub plan-requires-clause-cores : goal.plan-requires-clause-cores
plan-requires-clause-cores c = (subst IsInRange c.in-Plan.is c.requires.range).0

pub plan-requires-clause-most : goal.plan-requires-clause-most
plan-requires-clause-most c = (subst IsInRange c.in-Plan.is c.requires.range).1

pub returns-in-Plan : goal.returns-in-Plan
returns-in-Plan c = subst (λ d. Replies (Of d c.args.input.now) c.plan.result) (sym c.in-Plan.is) c.plan.ensures

pub report-requires-clause-some : goal.report-requires-clause-some
report-requires-clause-some c = (subst IsInRange c.in-Report.is c.requires.range).0

pub report-requires-clause-few : goal.report-requires-clause-few
report-requires-clause-few c = (subst IsInRange c.in-Report.is c.requires.range).1

pub report-requires-clause-most : goal.report-requires-clause-most
report-requires-clause-most c = (subst IsInRange c.in-Report.is c.requires.range).2

pub returns-in-Report : goal.returns-in-Report
returns-in-Report c = subst (λ d. Replies (Of d c.args.input.now) c.report.result) (sym c.in-Report.is) c.report.ensures

pub judge-requires-clause-some : goal.judge-requires-clause-some
judge-requires-clause-some c = (subst IsInRange c.in-Judge.is c.requires.range).0

pub judge-requires-clause-few : goal.judge-requires-clause-few
judge-requires-clause-few c = (subst IsInRange c.in-Judge.is c.requires.range).1

pub judge-requires-clause-most : goal.judge-requires-clause-most
judge-requires-clause-most c = (subst IsInRange c.in-Judge.is c.requires.range).2

pub returns-in-Judge : goal.returns-in-Judge
returns-in-Judge c = subst (λ d. Replies (Of d c.args.input.now) c.judge.result) (sym c.in-Judge.is) c.judge.ensures

pub unreachable-requires : goal.unreachable-requires
unreachable-requires c = c.requires.still (subst UsesWorkers (sym c.in-Run.is) tt)
