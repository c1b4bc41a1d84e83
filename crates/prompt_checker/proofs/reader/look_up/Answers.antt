use Rattle.prompt_checker.proofs.ReadLines.{look-made}
use Rattle.prompt_checker.proofs.reader.look_up.Goals as goal

pub returns : goal.returns
returns c =
    let text = rw c.in-Some.is at c.in_ok-path.ensures in
    look-made c.args.graph.now c.args.word.now c.in-Some.path c.in-Some.number c.find_near.result text c.find_near.ensures
