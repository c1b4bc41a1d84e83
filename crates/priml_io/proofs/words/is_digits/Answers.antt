use Rattle.std.proofs.Common.{take, arith, sym}
use Rattle.std.proofs.lemmas.List.{take_all}
use Rattle.std.proofs.lemmas.List.Elements.{All-more, All-same}
use Rattle.priml_io.specs.Words.{IsDigit}
use Rattle.priml_io.proofs.SectionsLemmas.{some-from_test}
use Rattle.priml_io.proofs.words.is_digits.Goals as goal

pub loop-b-preserved : goal.loop-b-preserved
loop-b-preserved c =
    All-more IsDigit c.args.word.now c.loop-b.b-index _ (omega arith) c.loop-b.invariant c.if-not-is_digit.ensures

pub returns : goal.returns
returns c =
    (some-from_test _ c.if-is_empty.ensures, All-same IsDigit c.args.word.now (take c.loop-b.b-index c.args.word.now) (sym (take_all c.loop-b.b-index c.args.word.now (omega arith))) c.loop-b.invariant)
