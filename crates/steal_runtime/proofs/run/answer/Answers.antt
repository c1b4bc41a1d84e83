use Rattle.std.proofs.Common.{arith}
use Rattle.join_board.specs.Handles.{about}
use Rattle.steal_runtime.proofs.Ends.{all_seats, each_seat, past, whole}
use Rattle.steal_runtime.proofs.run.answer.Goals as goal

pub close-book-requires-clause-seats : goal.close-book-requires-clause-seats
close-book-requires-clause-seats c = each_seat c.args.board c.args.seats.items c.requires.seats.2

pub close-book-requires-clause-all : goal.close-book-requires-clause-all
close-book-requires-clause-all c = (let n = all_seats c.args.board c.args.seats.items c.requires.seats.2 in let m = c.requires.seats.0 in let k = c.args.seats.ok in omega (arith, n, m, k), c.requires.seats.1)

pub returns-then-work-limit-clause-stop : goal.returns-then-work-limit-clause-stop
returns-then-work-limit-clause-stop c = let more = c.if-work-limit.true in let is = c.work-work.ensures in
    (more, past (about c.args.board) c.args.seats.items c.close-book.result c.args.limit c.close-book.ensures (omega (arith, more, is)))

pub returns-then-over-clause-ok : goal.returns-then-over-clause-ok
returns-then-over-clause-ok c = let less = c.if-work-limit.false in let is = c.work-work.ensures in let range = c.requires.range in
    whole (about c.args.board) c.args.seats.items c.close-book.result c.args.limit c.close-book.ensures (c.requires.over c.if-over.true) (omega (arith, less, is, range))
