use Rattle.std.proofs.Common.{◌≡◌, ◌+◌, length, sym, ◌∙◌, arith}
use Rattle.cost_graph.proofs.Grown.{lists_length}
use Rattle.priml_io.specs.Lines.{lines}
use Rattle.prompt_checker.specs.Read.{lists}
use Rattle.prompt_checker.proofs.ReadLines.{one-way, reading-next, reading-end, reading-stops, steps-below, handed, some-left, none-left}
use Rattle.prompt_checker.proofs.reader.read_schedule.Goals as goal

pub returns-in_err-step-clause-one_way : goal.returns-in_err-step-clause-one_way
returns-in_err-step-clause-one_way c = one-way c.args.graph.now (lines c.args.text.now) c.vertex_count-count.ensures.kept

pub returns-in_err-add_step-clause-one_way : goal.returns-in_err-add_step-clause-one_way
returns-in_err-add_step-clause-one_way c = one-way c.args.graph.now (lines c.args.text.now) c.vertex_count-count.ensures.kept

pub returns-clause-one_way : goal.returns-clause-one_way
returns-clause-one_way c = one-way c.args.graph.now (lines c.args.text.now) c.vertex_count-count.ensures.kept

pub returns-in_err-step-clause-fault : goal.returns-in_err-step-clause-fault
returns-in_err-step-clause-fault c =
    let g = c.args.graph.now in
    let text = c.args.text.now in
    let rest = c.lines.rest.now in
    let row = c.next_line.ensures.row in
    let some = some-left (length rest) (sym c.is_empty.ensures ∙ c.lines-test.true) in
    let number : c.len.result + 1 ≡ length (lists c.lines.steps.items) + 1 = omega (arith, c.len.ensures, lists_length c.lines.steps.items) in
    handed g c.in_err-step.field-0.0 c.from_residual.result (lines text) c.from_residual.ensures.1
    (reading-stops g text rest row.0 c.next_line.result.0.now c.next_line.result.1.now (lists c.lines.steps.items) (c.len.result + 1) c.in_err-step.field-0.0 c.lines.invariant some row.1 row.2 number c.in_err-step.ensures.fault)

pub lines-preserved : goal.lines-preserved
lines-preserved c =
    let rest = c.lines.rest.now in
    let row = c.next_line.ensures.row in
    let some = some-left (length rest) (sym c.is_empty.ensures ∙ c.lines-test.true) in
    reading-next c.args.graph.now c.args.text.now rest row.0 c.next_line.result.0.now c.next_line.result.1.now c.in_ok-step.step.items (lists c.lines.steps.items) (lists c.add_step.new.steps.items) c.lines.invariant some row.1 row.2
    c.in_ok-step.ensures.ok c.in_ok-add_step.ensures

pub returns-clause-within : goal.returns-clause-within
returns-clause-within c =
    let g = c.args.graph.now in
    let text = c.args.text.now in
    let rest = c.lines.rest.now in
    let none = none-left rest (sym c.is_empty.ensures ∙ c.lines-test.false) in
    steps-below g c.vertex_count-count.ensures.kept (lines text) (lists c.lines.steps.items) (reading-end g text rest (lists c.lines.steps.items) c.lines.invariant none)
