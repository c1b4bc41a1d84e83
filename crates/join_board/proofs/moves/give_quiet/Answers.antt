use Rattle.std.proofs.Common.{ap, ◌∙◌, []}
use Rattle.join_board.proofs.Calls.{gave_quiet}
use Rattle.join_board.proofs.moves.give_quiet.Goals as goal

pub returns-clause-given : goal.returns-clause-given
returns-clause-given c = c.give.ensures.given ∙ ap (λ v. (v, [])) (gave_quiet c.args.seat.now.me.0 c.args.value c.requires.quiet.0 c.requires.quiet.1 c.requires.quiet.2)
