use Rattle.std.proofs.Common.{◌≡◌, ℕ, List, sym, subst, arith, ⊎_elim}
use mathlib.Core.Option.{some}
use lib.ListN.{get_elem?}
use Rattle.atomic_table.proofs.Lists.{at_snoc}
use Rattle.core_steps.proofs.CoreLaws.{core_laws}
use Rattle.trace_book.specs.Log.{Log}
use Rattle.task_state.specs.Books.{ReadAs}
use Rattle.join_board.specs.Jobs.{the_job}
use Rattle.join_board.specs.Handles.{knows}
use Rattle.join_board.specs.Inside.Close.{Absorbed}
use Rattle.join_board.specs.declared.owned.BoardSeat.{BoardSeat}
use Rattle.join_board.proofs.Readings.{reads_as}
use Rattle.join_board.proofs.Gather.{front, last, total_snoc, contains_less}
use Rattle.join_board.proofs.owned.Board.close.Goals as goal

pub gather-requires-clause-table : goal.gather-requires-clause-table
gather-requires-clause-table c = let x = last _ _ _ _ c.in-Some.ensures.items c.requires.seats in (x, c.args.self.sized.0)

pub gather-requires-clause-rests : goal.gather-requires-clause-rests
gather-requires-clause-rests c = let x = c.in-Some.first.rests in (x.0, x.1, x.4)

pub gather-requires-clause-others : goal.gather-requires-clause-others
gather-requires-clause-others c = front _ _ _ _ c.in-Some.ensures.items c.requires.seats

pub close_one-requires-clause-all : goal.close_one-requires-clause-all
close_one-requires-clause-all c = let h = c.gather.ensures.rests in let sum = total_snoc (λ (s : BoardSeat). (knows s).seats) _ _ _ c.in-Some.ensures.items in let a = h.2 in let b = c.requires.all.0 in (h.1, omega (arith, sum, a, b))

pub returns : goal.returns
returns c = let f = c.close_one.ensures in let h = c.gather.ensures.knows in let key = c.args.self.table.shared.key in let w = c.gather.new.kept.me.0 in
    let absorbed : (j : ℕ) (s : BoardSeat) → get_elem? c.args.seats.items j ≡ some s → Absorbed (knows s) w = λ j s at. ⊎_elim (λ (g : get_elem? c.pop.new.self.items j ≡ some s). h.1 j s g) (λ (g : c.in-Some.first ≡ s). subst (λ (z : BoardSeat). Absorbed (knows z) w) g h.0)
    (at_snoc c.pop.new.self.items c.in-Some.first s j (subst (λ (z : List BoardSeat). get_elem? z j ≡ some s) c.in-Some.ensures.items at)) in (
      f.0,
      f.1,
      (
        f.2.0,
        f.2.1,
        (λ j s at. contains_less key f.2.0 f.0 (knows s) w (absorbed j s at) f.2.2),
        f.2.3,
        (λ z. let done = ((core_laws (the_job key)).counts.none f.2.0 f.2.1.reached).0 z in (done, subst (λ (ls : List Log). ReadAs ls f.2.0) (sym f.1) (reads_as key f.0 f.2.0 f.2.1 done))),
      ),
      λ j s at z. let less = (absorbed j s at).3 in let some_ask = f.3 (omega (arith, less, z)) in let sum = total_snoc (λ (r : BoardSeat). (knows r).stop.asked_memory) _ _ _ c.in-Some.ensures.items in let kept = c.gather.ensures.asked in omega (arith, some_ask, sum, kept),
    )
