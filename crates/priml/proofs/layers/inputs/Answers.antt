use Rattle.std.proofs.Common.{subst}
use Rattle.inputs_text.specs.Inputs.{AreInputs}
use Rattle.priml_io.specs.Lines.{lines}
use Rattle.priml.specs.Layers as the
use Rattle.priml.specs.Inside.Reply.{Stops}
use Rattle.priml.proofs.Replied.{inputs_stop}
use Rattle.priml.proofs.layers.inputs.Goals as goal

pub returns-in-Ok : goal.returns-in-Ok
returns-in-Ok c = subst (λ text. AreInputs (lines text) c.in-Ok.inputs) c.section.ensures c.in-Ok.ensures.ok

pub returns-in-Err : goal.returns-in-Err
returns-in-Err c = subst (λ text. Stops (the.inputs text) c.inputs_stop.result) c.section.ensures (inputs_stop c.section.result.now c.in-Err.fault c.inputs_stop.result c.in-Err.ensures.fault c.inputs_stop.ensures.stops c.inputs_stop.ensures.memory)
