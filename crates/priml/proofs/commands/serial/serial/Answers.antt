use Rattle.std.specs.Prelude.{◌≡◌, map, IfOk}
use Rattle.priml_syntax.specs.Read.{read_record}
use Rattle.serial_meaning.specs.RunText.{run_lines}
use Rattle.priml.proofs.Chains.{unrecorded, recorded}
use Rattle.priml.proofs.Ordered.{over}
use Rattle.priml.proofs.commands.serial.serial.Goals as goal

pub returns-in_err-job : goal.returns-in_err-job
returns-in_err-job c = unrecorded _ _ _ _ _ c.from_residual.ensures.1 c.in_err-job.ensures.refused

pub returns : goal.returns
returns c =
    let text = over _ _ c.order.ensures (λ names pairs. IfOk c.run_text-text.result (λ v. v.items ≡ run_lines names (map read_record c.in_ok-job.records))) c.run_text-text.ensures in
    recorded _ _ _ _ _ _ _ c.in_ok-job.ensures.ok (c.done.ensures.says _ text)
