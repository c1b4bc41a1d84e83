use Rattle.std.proofs.Common.{refl}
use Rattle.cost_graph.specs.Records.{parts_in}
use Rattle.cost_graph.specs.Inside.Tables.{part_nth}
use Rattle.cost_graph.proofs.JobEnds.{there_at}
use Rattle.cost_graph.proofs.finished.is_there.Goals as goal

pub returns-in-Ok : goal.returns-in-Ok
returns-in-Ok c =
    let rs = c.args.list.now in
    let t = c.in-Ok.field-0 in
    (λ _. (part_nth (parts_in rs) t, there_at rs t c.args.path.now c.requires c.in-Ok.ensures.found.0 c.in-Ok.ensures.found.1), λ _. refl)
