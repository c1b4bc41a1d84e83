use Rattle.std.proofs.Common.{◌==◌, length, rules, tests}
use Rattle.std.proofs.lemmas.Iterator.Consumers.{YieldsList-turn, YieldsList-end}
use Rattle.std.proofs.lemmas.Iterator.Splits.{YieldsList-from_slice_split}
use Rattle.inputs_text.specs.PathText.{between_dots, IsPartText}
use Rattle.inputs_text.proofs.Pairs.{pairs-step, pairs-fail}
use Rattle.inputs_text.proofs.path.read_parts.Goals as goal

pub loop-part-preserved : goal.loop-part-preserved
loop-part-preserved c = pairs-step IsPartText (λ x. x.now) c.loop-part.yielded c.in-Some.part c.loop-part.parts.items _ c.in-Some-read_part.number c.loop-part.invariant c.in-Some-read_part.ensures c.in_ok-push.ensures.items

pub returns-in_default : goal.returns-in_default
returns-in_default c =
    let turn = YieldsList-turn (YieldsList-from_slice_split {s = c.into_iter-part-iterator.result} _ (λ b. b == 46) c.args.text.now (cc) (cc) (cc) (λ x r q k. search (rules, tests))) c.loop-part.yielded _ c.loop-part.yielded_by _ c.next.new.self c.in-Some.part c.in-Some.is c.next.ensures.steps in
    pairs-fail IsPartText (between_dots c.args.text.now) (length c.loop-part.yielded) c.in-Some.part.now turn.0 turn.1 c.in_default.ensures

pub returns : goal.returns
returns c =
    let end = YieldsList-end (YieldsList-from_slice_split {s = c.into_iter-part-iterator.result} _ (λ b. b == 46) c.args.text.now (cc) (cc) (cc) (λ x r q k. search (rules, tests))) c.loop-part.yielded _ c.loop-part.yielded_by _ c.next.new.self c.in-None.is c.next.ensures.steps in
    rw end.0 at c.loop-part.invariant
