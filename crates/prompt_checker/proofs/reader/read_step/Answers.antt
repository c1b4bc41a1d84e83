use Rattle.std.proofs.Common.{refl, subst}
use Rattle.inputs_text.specs.PathText.{Pairwise}
use Rattle.inputs_text.specs.InputLines.{words_of}
use Rattle.prompt_checker.specs.Inside.Looks.{IsLook}
use Rattle.prompt_checker.proofs.ReadLines.{unknown-line, found-step}
use Rattle.prompt_checker.proofs.reader.read_step.Goals as goal

pub returns-in_default : goal.returns-in_default
returns-in_default c = record { ok = tt; fault = (refl, rw c.in_default.is at c.in_ok-looks.ensures) }

pub returns-in_default-2 : goal.returns-in_default-2
returns-in_default-2 c =
    let looks = rw c.in-Some.is at c.in_ok-looks.ensures in
    let missing = rw c.in_default-2.is at c.in_ok-step.ensures in
    record { ok = tt; fault = (refl, unknown-line c.args.graph.now c.args.line.now c.in-Some.looks.items looks missing) }

pub returns : goal.returns
returns c =
    let looks = rw c.in-Some.is at c.in_ok-looks.ensures in
    let found = rw c.in-Some-2.is at c.in_ok-step.ensures in
    record { ok = found-step c.args.graph.now (words_of c.args.line.now) c.in-Some-2.step.items (subst (Pairwise (IsLook c.args.graph.now) (words_of c.args.line.now)) found looks); fault = tt }
