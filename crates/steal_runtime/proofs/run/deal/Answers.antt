use Rattle.std.proofs.Common.{rules, ◌≡◌, ◌<◌, sym, subst, Some}
use Rattle.std.specs.List.{All}
use Rattle.std.proofs.lemmas.List.Elements.{All-pop, All-push}
use Rattle.join_board.specs.Handles.{about}
use Rattle.steal_runtime.specs.declared.parts.Part.{Part}
use Rattle.steal_runtime.specs.Inside.Seats.{Serves, Sits}
use Rattle.steal_runtime.proofs.run.deal.Goals as goal

pub loop-end-preserved : goal.loop-end-preserved
loop-end-preserved g c = let b = c.args._board.now in let j = c.args._job.now in let i = c.loop-end.invariant in let d = c.requires.duty in
    let seats = All-pop (Sits b) c.loop-end.seats.items c.pop-in-Some.new.self.items (Some c.in-Some-pop.seat) c.in-Some-pop.ensures.items i.3 in
    let ends = All-pop (λ e. g.L.Lanes.job e ≡ j) c.loop-end.ends.items c.pop.new.self.items (Some c.in-Some.end) c.in-Some.ensures.items i.6 in
    let is = c.in_ok-push.ensures.items in let low : c.loop-end.worker < (about b).opened = search rules in (
      search rules,
      search rules,
      search rules,
      seats.0,
      subst (All (λ (p : Part g.row.L.Denot). Sits b p.seat × Serves b j p.duty)) (sym is) (All-push (λ (p : Part g.row.L.Denot). Sits b p.seat × Serves b j p.duty) c.loop-end.parts.items _ i.4 (seats.1, (d.0, low, d.2, d.3, d.4))),
      subst (All (λ (p : Part g.row.L.Denot). g.L.Lanes.job p.end ≡ j)) (sym is) (All-push (λ (p : Part g.row.L.Denot). g.L.Lanes.job p.end ≡ j) c.loop-end.parts.items _ i.5 ends.1),
      ends.0,
    )
