-- Seats of a board may go to other threads, and threads may share a board. Rattle does not find either through the code of a seat's view.
use denote.Param.Send.{IsSend, IsSync, sendable}
use denote.Param.SendFields.{declared_send, declared_sync}
use Rattle.std.proofs.Crossing.{crosses, Vec-sync}
use Rattle.std.proofs.alloc.Global.TheSendSync as heap
use Rattle.std.below.std_heap.proofs.GlobalAllocator.TheSendSync as allocator
use Rattle.std.proofs.option.Option.TheSendSync as option
use Rattle.std.specs.contracts.alloc.Global as Global
use Rattle.std.specs.contracts.impls.GlobalAllocator.TheImpl as of_heap
use Rattle.std.specs.contracts.option.Option as Option
use Rattle.atomic_table.proofs.owned.Table.TheSendSync as table
use Rattle.atomic_table.proofs.shared.Seat.TheSendSync as seat
use Rattle.atomic_table.specs.contracts.owned.Table as Table
use Rattle.atomic_table.specs.contracts.shared.Seat as Seat
use Rattle.priml_syntax.proofs.block.Action.TheLaws.TheKnot as block
use Rattle.priml_syntax.proofs.expr.ExprForm.TheLaws.TheKnot as expr
use Rattle.priml_syntax.proofs.ty.Ty.TheLaws.TheKnot as ty
use Rattle.priml_syntax.proofs.value.Value.TheLaws.TheKnot as value
use Rattle.trace_book.specs.contracts.log.ThreadLog as ThreadLog
use Rattle.join_board.specs.contracts.shard.Shard as Shard
use Rattle.join_board.specs.contracts.view.About as About
use Rattle.join_board.specs.contracts.view.View as View
use Rattle.join_board.specs.contracts.rule.Rule as Rule
use Rattle.join_board.specs.contracts.rule.RuleTableRuleOptionShardViewAbout.TheImpl as of_rule
use Rattle.join_board.specs.contracts.owned.Board as Board
use Rattle.join_board.specs.contracts.owned.BoardSeat as BoardSeat

shard_send : IsSend Shard.the_row
shard_send = search (crosses, block.crosses, expr.crosses, ty.crosses, value.crosses, sendable) depth 60 fits 20000

place_send : IsSend (Seat.the_row (Option.the_row Shard.the_row) View.the_row)
place_send = seat.the_send (Option.the_row Shard.the_row) View.the_row (option.the_send Shard.the_row shard_send)

-- a seat may go to another thread
pub seat_send : IsSend BoardSeat.the_row
seat_send = declared_send BoardSeat.the_type (place_send, (search sendable, (search sendable, tt)))

log_sync : IsSync ThreadLog.the_row
log_sync = search (crosses, block.crosses, expr.crosses, ty.crosses, value.crosses, sendable) depth 60 fits 20000

table_sync : IsSync (Table.the_row (Option.the_row Shard.the_row) View.the_row About.the_row Rule.the_row Global.the_row of_rule.ghosts of_heap.ghosts)
table_sync = table.the_sync (Option.the_row Shard.the_row) View.the_row About.the_row Rule.the_row Global.the_row of_rule.ghosts of_heap.ghosts (option.the_send Shard.the_row shard_send) heap.the_send heap.the_sync allocator.the_frees

-- threads may share a board
pub board_sync : IsSync Board.the_row
board_sync = declared_sync Board.the_type (table_sync, (Vec-sync _ (Vec-sync _ log_sync), tt))
