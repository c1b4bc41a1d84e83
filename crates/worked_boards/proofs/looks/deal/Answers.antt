use Rattle.std.proofs.Common.{subst, sym, Some}
use Rattle.std.specs.List.{All}
use Rattle.std.proofs.lemmas.List.Elements.{All-pop, All-push}
use Rattle.core_steps.specs.Moves.{read_job}
use Rattle.worked_boards.specs.Inside.Seats.{Sits}
use Rattle.worked_boards.specs.declared.looks.Part.{Part}
use Rattle.worked_boards.proofs.looks.deal.Goals as goal

pub loop-seat-preserved : goal.loop-seat-preserved
loop-seat-preserved c = let job = read_job c.args._job.now in let b = c.args._board.now in let i = c.loop-seat.invariant in
    let seats = All-pop (Sits job b) c.loop-seat.seats.items c.pop.new.self.items (Some c.in-Some.seat) c.in-Some.ensures.items i.0 in (
      seats.0,
      subst (All (λ (p : Part). Sits job b p.seat)) (sym c.in_ok-push.ensures.items) (All-push (λ (p : Part). Sits job b p.seat) c.loop-seat.parts.items _ i.1 seats.1),
    )
