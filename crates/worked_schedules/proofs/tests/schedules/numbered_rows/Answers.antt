use Rattle.prompt_checker.specs.Read.{steps_of}
use Rattle.worked_schedules.proofs.Worked.{rows_numbered}
use Rattle.worked_schedules.proofs.tests.schedules.numbered_rows.Goals as goal

pub returns : goal.returns
returns c =
    let s = c.args.scene.now in
    record { numbered = rows_numbered s.graph s.order.pairs c.args.cores (steps_of c.args.schedule.now) c.in_ok-list.list.items c.in_ok-list.ensures.rows }
