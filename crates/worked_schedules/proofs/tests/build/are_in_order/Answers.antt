use Rattle.std.proofs.Common.{◌≤◌, length, arith}
use Rattle.worked_schedules.proofs.Worked.{rise_in_order}
use Rattle.worked_schedules.proofs.tests.build.are_in_order.Goals as goal

pub returns : goal.returns
returns c = λ _.
    let le : length c.args.list.now ≤ c.loop-next.next = omega arith in
    rise_in_order c.args.list.now c.loop-next.next le c.loop-next.invariant.rise
