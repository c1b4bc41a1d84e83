use Rattle.std.proofs.Common.{◌==◌, length, arith, rules, tests}
use Rattle.std.specs.List.{slice_split}
use Rattle.std.proofs.lemmas.List.{length_push}
use Rattle.std.proofs.lemmas.Iterator.Consumers.{YieldsList-so_far, YieldsList-turn, YieldsList-end}
use Rattle.std.proofs.lemmas.Iterator.Splits.{YieldsList-from_slice_split}
use Rattle.priml_io.specs.Lines.{lines}
use Rattle.priml_syntax.specs.Inputs.{read_lists as lists_of}
use Rattle.inputs_text.proofs.SplitLines.{ends-lines}
use Rattle.inputs_text.proofs.Reading.{inputs-step, inputs-ends, stops-here, handed}
use Rattle.inputs_text.proofs.inputs.read_lists.Goals as goal

pub loop-line-preserved : goal.loop-line-preserved
loop-line-preserved c = (
  inputs-step (λ x. x.now) c.loop-line.yielded c.in-Some.line (lists_of c.loop-line.lists.items) (lists_of c.add_line.new.lists.items) c.loop-line.invariant.0 c.in_ok-add_line.ensures.line,
  c.in_ok-add_line.ensures.paths,
  omega (arith, c.loop-line.invariant.2, length_push c.loop-line.yielded c.in-Some.line),
)

pub returns-in_err-add_line-clause-fault : goal.returns-in_err-add_line-clause-fault
returns-in_err-add_line-clause-fault c =
    let all = slice_split (λ b. b == 10) c.args.text.now in
    let turn = YieldsList-turn (YieldsList-from_slice_split {s = c.into_iter-line-iterator.result} _ (λ b. b == 10) c.args.text.now (cc) (cc) (cc) (λ x r q k. search (rules, tests))) c.loop-line.yielded _ c.loop-line.yielded_by _ c.next.new.self c.in-Some.line c.in-Some.is c.next.ensures.steps in
    let so_far = YieldsList-so_far (YieldsList-from_slice_split {s = c.into_iter-line-iterator.result} _ (λ b. b == 10) c.args.text.now (cc) (cc) (cc) (λ x r q k. search (rules, tests))) c.loop-line.yielded _ c.loop-line.yielded_by in
    let stop = rw c.loop-line.invariant.2 at c.in_err-add_line.ensures.stop in
    handed c.in_err-add_line.field-0.0 c.from_residual.result (lines c.args.text.now) c.from_residual.ensures.1
    (stops-here (lines c.args.text.now) all (length c.loop-line.yielded) c.in-Some.line.now (lists_of c.loop-line.lists.items) c.in_err-add_line.field-0.0 (ends-lines c.args.text.now) turn.0 turn.1 (rw so_far at c.loop-line.invariant.0) stop)

pub returns-clause-ok : goal.returns-clause-ok
returns-clause-ok c =
    let all = slice_split (λ b. b == 10) c.args.text.now in
    let end = YieldsList-end (YieldsList-from_slice_split {s = c.into_iter-line-iterator.result} _ (λ b. b == 10) c.args.text.now (cc) (cc) (cc) (λ x r q k. search (rules, tests))) c.loop-line.yielded _ c.loop-line.yielded_by _ c.next.new.self c.in-None.is c.next.ensures.steps in
    inputs-ends (lines c.args.text.now) all (lists_of c.loop-line.lists.items) (ends-lines c.args.text.now) (rw end.0 at c.loop-line.invariant.0)
