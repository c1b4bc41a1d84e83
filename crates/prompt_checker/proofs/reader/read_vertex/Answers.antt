use Rattle.std.proofs.Common.{ℕ, List, subst}
use Rattle.inputs_text.specs.PathText.{IsPathText}
use Rattle.prompt_checker.proofs.ReadLines.{no-cut, no-path, no-number}
use Rattle.prompt_checker.proofs.reader.read_vertex.Goals as goal

pub returns-in_default : goal.returns-in_default
returns-in_default c = no-cut c.args.graph.now c.args.text.now c.in_default.ensures

pub returns-in_default-2 : goal.returns-in_default-2
returns-in_default-2 c =
    let none : (p : List ℕ) → ¬ IsPathText c.last_root.result c.in-Some.prefix.now p = rw c.in_default-2.is at c.in_ok-path.ensures in
    no-path c.args.graph.now c.args.text.now c.in-Some.prefix.now c.in-Some.back.now c.in-Some.ensures (subst (λ last. (p : List ℕ) → ¬ IsPathText last c.in-Some.prefix.now p) c.last_root.ensures none)

pub returns-in_default-read_part : goal.returns-in_default-read_part
returns-in_default-read_part c = no-number c.args.graph.now c.args.text.now c.in-Some.prefix.now c.in-Some.back.now c.in-Some.ensures c.in_default-read_part.ensures
