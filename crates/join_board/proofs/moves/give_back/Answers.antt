use Rattle.std.proofs.Common.{ap, ◌∙◌, []}
use Rattle.join_board.proofs.Calls.{gave_back}
use Rattle.join_board.specs.Inside.Views.{gave_view}
use Rattle.join_board.proofs.moves.give_back.Goals as goal

pub returns-clause-given : goal.returns-clause-given
returns-clause-given c = c.give.ensures.given ∙ ap (λ x. (gave_view c.args.seat.now.me.0 x, [])) c.requires.holds.2 ∙ ap (λ v. (v, [])) (gave_back c.args.seat.now.me.0)
