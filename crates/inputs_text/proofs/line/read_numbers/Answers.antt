use Rattle.std.proofs.Common.{length, rules, tests}
use Rattle.std.proofs.lemmas.Iterator.Consumers.{YieldsList-turn, YieldsList-end, YieldsList-from_filter}
use Rattle.std.proofs.lemmas.Iterator.Splits.{YieldsList-from_slice_split}
use Rattle.priml_io.specs.Lines.{is_blank}
use Rattle.inputs_text.specs.InputLines.{is_some_text, words_of, IsNumberText}
use Rattle.inputs_text.proofs.Numbers.{number-kept}
use Rattle.inputs_text.proofs.Pairs.{pairs-step, pairs-fail}
use Rattle.inputs_text.proofs.line.read_numbers.Goals as goal

pub loop-word-preserved : goal.loop-word-preserved
loop-word-preserved c = pairs-step IsNumberText (λ x. x.now) c.loop-word.yielded c.in-Some.word c.loop-word.numbers.items c.push.new.self.items c.in-Some-read_number.number c.loop-word.invariant c.in-Some-read_number.ensures (number-kept c.in-Some.word.now c.loop-word.numbers.items c.push.new.self.items c.in-Some-read_number.number c.in-Some-read_number.ensures c.in_ok-push.ensures.items)

pub returns-in_default : goal.returns-in_default
returns-in_default c =
    let turn = YieldsList-turn (YieldsList-from_filter {s = c.into_iter-word-iterator.result} _ is_some_text (YieldsList-from_slice_split _ is_blank c.args.text.now (cc) (cc) (cc) (λ x r q k. search (rules, tests))) (cc) (λ x r q k. search (rules, tests))) c.loop-word.yielded _ c.loop-word.yielded_by _ c.next.new.self c.in-Some.word c.in-Some.is c.next.ensures.steps in
    pairs-fail IsNumberText (words_of c.args.text.now) (length c.loop-word.yielded) c.in-Some.word.now turn.0 turn.1 c.in_default.ensures

pub returns : goal.returns
returns c =
    let end = YieldsList-end (YieldsList-from_filter {s = c.into_iter-word-iterator.result} _ is_some_text (YieldsList-from_slice_split _ is_blank c.args.text.now (cc) (cc) (cc) (λ x r q k. search (rules, tests))) (cc) (λ x r q k. search (rules, tests))) c.loop-word.yielded _ c.loop-word.yielded_by _ c.next.new.self c.in-None.is c.next.ensures.steps in
    rw end.0 at c.loop-word.invariant
