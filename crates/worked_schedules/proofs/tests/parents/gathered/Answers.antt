use Rattle.worked_schedules.proofs.Gathered.{gathered_is_graph}
use Rattle.worked_schedules.proofs.tests.parents.gathered.Goals as goal

pub of_parents-requires : goal.of_parents-requires
of_parents-requires c = rw (c.in_ok-threads.ensures, c.in_ok-parents.ensures) (gathered_is_graph c.args.children c.requires)
