use Rattle.std.proofs.Common.{◌≤◌, length, ap, ◌∙◌, arith}
use Rattle.std.proofs.lemmas.List.{take_all}
use Rattle.cost_graph.specs.Records.{parts_in, event_total}
use Rattle.cost_graph.proofs.Parts.{parts_length}
use Rattle.cost_graph.proofs.records.all_parents.Goals as goal

pub returns-clause-long : goal.returns-clause-long
returns-clause-long c =
    let xs = parts_in c.args.list.now in
    let all : length xs ≤ c.loop-t.t = omega (arith, c.loop-t-test.false, parts_length c.args.list.now) in
    c.loop-t.invariant.long ∙ ap event_total (take_all c.loop-t.t xs all)
