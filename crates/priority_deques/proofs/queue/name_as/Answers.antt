use Rattle.std.proofs.Common.{sym, subst}
use Rattle.crossbeam_queue.specs.Fifo.{Forks}
use Rattle.priority_deques.specs.declared.view.LaneView.{LaneView}
use Rattle.priority_deques.specs.Inside.Rule.{Kept}
use Rattle.priority_deques.proofs.Moves.{names}
use Rattle.priority_deques.proofs.queue.name_as.Goals as goal

pub another-other-requires-clause-rule : goal.another-other-requires-clause-rule
another-other-requires-clause-rule g c = subst (λ (v : LaneView × LaneView). Forks Kept c.args.pass.now.id v.0 v.1 v.1) (λ i. (sym c.requires.unnamed i, sym c.requires.name i)) (names c.args.pass.now.id c.args._job.now c.args._lane)
