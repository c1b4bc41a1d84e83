use Rattle.std.proofs.Common.{◌≡◌, ◌≢◌, ◌+◌, ◌-◌, length, arith}
use Rattle.cost_graph.specs.Records.{parts_in}
use Rattle.cost_graph.proofs.Parts.{apart_in}
use Rattle.cost_graph.proofs.JobEnds.{spawner_from, spawner_to}
use Rattle.cost_graph.proofs.finished.has_spawner.Goals as goal

pub returns : goal.returns
returns c =
    let xs = parts_in c.args.list.now in
    let p = c.args.path.now in
    let long : length p ≡ (length p - 1) + 1 = omega (arith, c.requires.some) in
    let other : length p ≢ 1 = λ e. omega (arith, long, e, c.if-depth-eq0.false) in (
      λ e. spawner_from xs p (length p - 1) long (c.has_spawn.ensures.0 e),
      λ h. c.has_spawn.ensures.1 (spawner_to xs p (length p - 1) (apart_in c.args.list.now c.requires.order) long other h),
    )
