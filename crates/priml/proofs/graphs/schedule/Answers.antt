use Rattle.std.proofs.Common.{subst}
use Rattle.priml_io.specs.Lines.{lines}
use Rattle.prompt_checker.specs.Read.{steps_of}
use Rattle.prompt_checker.specs.ScheduleText.{AreStepLines}
use Rattle.priml.specs.Layers as the
use Rattle.priml.specs.Inside.Reply.{Stops}
use Rattle.priml.proofs.Replied.{schedule_stops}
use Rattle.priml.proofs.graphs.schedule.Goals as goal

pub returns-in-Ok-clause-schedule : goal.returns-in-Ok-clause-schedule
returns-in-Ok-clause-schedule c = subst (λ text. AreStepLines c.args.graph.now (lines text) (steps_of c.in-Ok.schedule)) c.section.ensures c.in-Ok.ensures.ok

pub returns-in-Err-clause-schedule : goal.returns-in-Err-clause-schedule
returns-in-Err-clause-schedule c =
    subst (λ text. Stops (the.schedule c.args.graph.now text) c.schedule_stop.result) c.section.ensures
    (schedule_stops c.args.graph.now c.section.result.now c.in-Err.fault c.schedule_stop.result c.in-Err.ensures.fault c.schedule_stop.ensures.stops c.schedule_stop.ensures.memory)
