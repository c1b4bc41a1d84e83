use Rattle.std.specs.Prelude.{◌≡◌, ◌++◌, List, map, IfOk}
use Rattle.std.specs.List.{flat_map}
use Rattle.priml_syntax.specs.Read.{read_program, read_record}
use Rattle.serial_meaning.specs.RunText.{run_lines}
use Rattle.trace_book.specs.Book.{IsInPathOrder}
use Rattle.trace_book.specs.CutsText.{log_lines}
use Rattle.trace_book.specs.Log.{Log}
use Rattle.priml.specs.Chain.{SaysSome}
use Rattle.priml.specs.Texts.{IsTraceText}
use Rattle.priml.proofs.Chains.{unrecorded, recorded, says_some}
use Rattle.priml.proofs.CutLines.{fits_trace}
use Rattle.priml.proofs.Ordered.{over}
use Rattle.priml.proofs.commands.trace.trace.Goals as goal

pub returns-in_err-job : goal.returns-in_err-job
returns-in_err-job g c = unrecorded _ _ _ _ _ c.from_residual.ensures.1 c.in_err-job.ensures.refused

pub returns : goal.returns
returns g c =
    let text = over _ _ c.order.ensures (λ names pairs. IfOk c.trace_text-text.result (λ v. (ls : List Log) × IsInPathOrder c.in_ok-job.book ls × (v.items ≡ run_lines names (map read_record c.in_ok-job.records) ++ flat_map log_lines ls))) c.trace_text-text.ensures in
    recorded _ _ (λ s p rs. SaysSome (IsTraceText p rs c.args.workers c.args.quantum)) _ _ _ _ c.in_ok-job.ensures.ok
    (says_some _ c.trace_text-text.result _ c.done.ensures.same c.done.ensures.memory (fits_trace c.args.workers c.args.quantum _ _ _ (read_program c.in_ok-job.job.program) (map read_record c.in_ok-job.records) c.in_ok-job.ensures.run c.in_ok-job.ensures.meant c.trace_text-text.result text))
