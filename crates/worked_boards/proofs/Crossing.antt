-- What a thread of a test gives may go to another thread, and threads may share what its closure holds.
use mathlib.Core.List.{[], ◌∷◌}
use mir.Syntax.{Sym}
use denote.RattleType.{RattleType}
use denote.Param.Send.{IsSend, IsSync, sendable}
use denote.Param.SendFields.{as_row_sync, declared_sync}
use denote.Struct.Field.{row_field}
use denote.Struct.Tuple.{TupleAt, type_at}
use Rattle.std.proofs.Crossing.{crosses}
use Rattle.std.proofs.option.Option.TheSendSync as option
use Rattle.std.specs.contracts.option.Option as Option
use Rattle.priml_syntax.proofs.block.Action.TheLaws.TheKnot as block
use Rattle.priml_syntax.proofs.expr.ExprForm.TheLaws.TheKnot as expr
use Rattle.priml_syntax.proofs.ty.Ty.TheLaws.TheKnot as ty
use Rattle.priml_syntax.proofs.value.Value.TheLaws.TheKnot as value
use Rattle.type_rules.specs.contracts.job.Job as Job
use Rattle.join_board.specs.contracts.owned.BoardSeat as BoardSeat
use Rattle.join_board.proofs.Crossing.{seat_send}

pub maybe_send : IsSend (Option.the_row BoardSeat.the_row)
maybe_send = option.the_send BoardSeat.the_row seat_send

pub job_sync : IsSync Job.the_row
job_sync = search (crosses, block.crosses, expr.crosses, ty.crosses, value.crosses, sendable) depth 60 fits 20000

-- of a closure with four captures
pub four_sync : (ν : Sym) (A B C D : RattleType) → IsSync A → IsSync B → IsSync C → IsSync D → IsSync (TupleAt ν (A ∷ B ∷ C ∷ D ∷ []))
four_sync ν A B C D a b c d = declared_sync (type_at ν (A ∷ B ∷ C ∷ D ∷ [])) (as_row_sync (row_field A) a, (as_row_sync (row_field B) b, (as_row_sync (row_field C) c, (as_row_sync (row_field D) d, tt))))
