use Rattle.std.proofs.Common.{sym, subst}
use Rattle.crossbeam_deque.specs.Tasks.{Forks}
use Rattle.crossbeam_deque.specs.Handles.{worker_port}
use Rattle.priority_deques.specs.declared.view.LaneView.{LaneView}
use Rattle.priority_deques.specs.Inside.Rule.{Kept}
use Rattle.priority_deques.proofs.Moves.{names}
use Rattle.priority_deques.proofs.deque.name_as.Goals as goal

pub another-other-requires : goal.another-other-requires
another-other-requires g c = let port = worker_port c.args.worker.now in subst (λ (v : LaneView × LaneView). Forks Kept port v.0 v.1 v.1) (λ i. (sym c.requires.unnamed i, sym c.requires.name i)) (names port c.args._job.now c.args._lane)
