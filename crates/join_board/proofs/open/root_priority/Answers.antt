use Rattle.std.proofs.Common.{[], ◌∷◌, sym, subst}
use Rattle.core_steps.specs.Fields.{read_local}
use Rattle.core_steps.specs.Moves.{read_job}
use Rattle.join_board.specs.Threads.{PrioOf}
use Rattle.join_board.proofs.Openings.{root_prio}
use Rattle.join_board.proofs.open.root_priority.Goals as goal

pub returns : goal.returns
returns c = subst (PrioOf (read_job c.args.job.now) (c.args.k ∷ [])) (sym c.priority_of.ensures) (root_prio (read_job c.args.job.now) c.args.k (read_local c.in_ok-local.local) c.in_ok-local.ensures.state c.in_ok-local.ensures.root)
