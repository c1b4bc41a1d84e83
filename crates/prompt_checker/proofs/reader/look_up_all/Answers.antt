use Rattle.std.proofs.Common.{length, rules, tests, sym}
use Rattle.std.proofs.lemmas.Iterator.Consumers.{YieldsList-turn, YieldsList-end, YieldsList-from_filter}
use Rattle.std.proofs.lemmas.Iterator.Splits.{YieldsList-from_slice_split}
use Rattle.priml_io.specs.Lines.{is_blank}
use Rattle.inputs_text.specs.InputLines.{is_some_text}
use Rattle.prompt_checker.specs.Inside.Looks.{IsLook}
use Rattle.inputs_text.proofs.Pairs.{pairs-step}
use Rattle.prompt_checker.proofs.reader.look_up_all.Goals as goal

pub loop-word-preserved : goal.loop-word-preserved
loop-word-preserved c =
    let look = rw c.in-Some-2.is at c.in_ok-look.ensures in
    pairs-step (IsLook c.args.graph.now) (λ x. x.now) c.loop-word.yielded c.in-Some.word c.loop-word.looks.items c.push.new.self.items c.in-Some-2.look c.loop-word.invariant look c.in_ok-push.ensures.items

pub returns-in_default : goal.returns-in_default
returns-in_default c =
    let turn = YieldsList-turn (YieldsList-from_filter {s = c.into_iter-word-iterator.result} _ is_some_text (YieldsList-from_slice_split _ is_blank c.args.line.now (cc) (cc) (cc) (λ x r q k. search (rules, tests))) (cc) (λ x r q k. search (rules, tests))) c.loop-word.yielded _ c.loop-word.yielded_by _ c.next.new.self c.in-Some.word c.in-Some.is c.next.ensures.steps in
    (c.in-Some.word.now, (length c.loop-word.yielded, turn.0, sym turn.1), rw c.in_default.is at c.in_ok-look.ensures)

pub returns : goal.returns
returns c =
    let end = YieldsList-end (YieldsList-from_filter {s = c.into_iter-word-iterator.result} _ is_some_text (YieldsList-from_slice_split _ is_blank c.args.line.now (cc) (cc) (cc) (λ x r q k. search (rules, tests))) (cc) (λ x r q k. search (rules, tests))) c.loop-word.yielded _ c.loop-word.yielded_by _ c.next.new.self c.in-None.is c.next.ensures.steps in
    rw end.0 at c.loop-word.invariant
