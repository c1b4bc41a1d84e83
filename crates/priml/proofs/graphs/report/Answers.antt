use Rattle.std.specs.Prelude.{◌≡◌, ◌++◌, length, map, IfOk}
use Rattle.priml_syntax.specs.Read.{read_record}
use Rattle.serial_meaning.specs.RunText.{run_lines}
use Rattle.response_report.specs.Response.{AreRows}
use Rattle.response_report.specs.Text.{response_lines}
use Rattle.prompt_checker.specs.Read.{steps_of}
use Rattle.priml.specs.Commands.{Reports}
use Rattle.priml.specs.Layers as the
use Rattle.priml.proofs.Chains.{handed, stopped, passed}
use Rattle.priml.proofs.Ordered.{over}
use Rattle.priml.proofs.graphs.report.Goals as goal

pub returns-in_err-rows : goal.returns-in_err-rows
returns-in_err-rows c = λ p is. handed (Reports p _ c.args.graph.now c.args.cores _) _ _ c.from_residual.ensures.1 (stopped (the.small c.args.graph.now) _ _ c.in_err-rows.ensures.large)

pub returns : goal.returns
returns c = λ p is.
    let steps = steps_of c.args.schedule.now in
    let rs = map read_record c.args.records.now in
    let rows = over p _ is (λ names pairs. AreRows c.args.graph.now pairs c.args.cores steps c.in_ok-rows.rows.items) c.in_ok-rows.ensures.rows in
    let text = over p _ is (λ names pairs. IfOk c.report_text.result (λ v. v.items ≡ run_lines names rs ++ response_lines c.args.graph.now names c.args.cores (length steps) c.in_ok-rows.rows.items)) (rw c.deref.ensures.value at c.report_text.ensures) in
    passed (the.small c.args.graph.now) _ tt _ c.in_ok-rows.ensures.small (passed _ _ c.in_ok-rows.rows.items _ rows (c.done.ensures.says _ text))
