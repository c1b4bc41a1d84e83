use Rattle.std.proofs.Common.{◌≡◌, ℕ, sym, ap, ◌∙◌, subst, arith, ◌⊎◌}
use mathlib.Core.Option.{some}
use lib.ListN.{get_elem?}
use Rattle.join_board.specs.Inside.Views.{both}
use Rattle.join_board.specs.Handles.{knows}
use Rattle.join_board.specs.Inside.Close.{Absorbed}
use Rattle.join_board.specs.declared.owned.BoardSeat.{BoardSeat}
use Rattle.join_board.specs.declared.view.View.{View}
use Rattle.join_board.proofs.Gather.{front, last, total_snoc, gathered, absorbs_left, absorbed_on}
use Rattle.join_board.proofs.close.gather.Goals as goal

pub join-requires-clause-table : goal.join-requires-clause-table
join-requires-clause-table c = let inv = c.loop-other.invariant in let x = last _ _ _ _ c.in-Some.ensures.items inv.6 in (inv.0, x, c.requires.table.1)

pub join-requires-clause-rests : goal.join-requires-clause-rests
join-requires-clause-rests c = let inv = c.loop-other.invariant in let x = c.in-Some.other.rests in (x.0, inv.2, x.1, inv.3)

pub loop-other-preserved : goal.loop-other-preserved
loop-other-preserved c = let inv = c.loop-other.invariant in let is = c.in-Some.ensures.items in let x = c.in-Some.other in let me = c.join.ensures.1 in let v = c.loop-other.kept.me.0 in
    let now : both v (knows x) ≡ c.join.new.seat.me.0 = sym (ap (λ m. m.0) me) in let sum = total_snoc (λ (s : BoardSeat). (knows s).seats) _ _ _ is in let old = inv.4 in let seats = ap (λ (u : View). u.seats) now in let some_seat = inv.3 in (
      c.join.ensures.0 ∙ inv.0,
      ap (λ m. m.1) me ∙ inv.1,
      ap (λ m. m.0.hand.hand) me ∙ inv.2,
      omega (arith, seats, some_seat),
      omega (arith, sum, old, seats),
      (let sum_asked = total_snoc (λ (s : BoardSeat). (knows s).stop.asked_memory) _ _ _ is in let before = inv.5 in let asked = ap (λ (u : View). u.stop.asked_memory) now in omega (arith, sum_asked, before, asked)),
      front _ _ _ _ is inv.6,
      subst (Absorbed c.args.kept.now.me.0) now (absorbed_on c.args.kept.now.me.0 v (both v (knows x)) inv.7 (absorbs_left v (knows x))),
      subst (λ (w : View). (j : ℕ) (s : BoardSeat) → get_elem? c.args.seats.items j ≡ some s → (get_elem? c.pop.new.self.items j ≡ some s) ⊎ Absorbed (knows s) w) now (gathered c.args.seats.items c.loop-other.seats.items c.pop.new.self.items x v is inv.8),
    )
